use Rattle.std.proofs.Common.{◌∙◌}
use Rattle.cob_meaning.specs.Layouts.{referent}
use Rattle.cob_code.proofs.Looking.{input_seen}
use Rattle.cob_code.proofs.kinds.input_fault.Goals as goal

pub returns : goal.returns
returns c = c.input_fault_of.ensures ∙ input_seen (referent c.args.names.now c.args.cd.now) c.referent.result c.args.cd.now.position c.referent.ensures
