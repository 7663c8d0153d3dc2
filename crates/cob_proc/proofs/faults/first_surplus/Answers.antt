use Rattle.std.proofs.Common.{sym}
use Rattle.cob_proc.specs.declared.limits.TheConstants.{MAX_PARAGRAPHS}
use Rattle.cob_proc.proofs.Families.{surplus_none}
use Rattle.cob_proc.proofs.faults.first_surplus.Goals as goal

pub returns : goal.returns
returns c = sym (surplus_none MAX_PARAGRAPHS c.args.names.now c.if-names-gt-MAX_PARAGRAPHS.false)
