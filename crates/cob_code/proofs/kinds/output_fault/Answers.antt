use Rattle.std.proofs.Common.{◌∙◌}
use Rattle.cob_meaning.specs.Layouts.{referent}
use Rattle.cob_code.proofs.Looking.{output_seen}
use Rattle.cob_code.proofs.kinds.output_fault.Goals as goal

pub returns : goal.returns
returns c = c.output_fault_of.ensures ∙ output_seen (referent c.args.names.now c.args.cd.now) c.referent.result c.args.cd.now.position c.referent.ensures
