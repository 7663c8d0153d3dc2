use Rattle.std.proofs.Common.{◌∙◌}
use Rattle.cob_meaning.specs.Layouts.{referent}
use Rattle.cob_code.proofs.Looking.{number_seen}
use Rattle.cob_code.proofs.kinds.names_number.Goals as goal

pub returns : goal.returns
returns c = c.is_number.ensures ∙ number_seen (referent c.args.names.now c.args.identifier.now.name) c.referent.result c.referent.ensures
