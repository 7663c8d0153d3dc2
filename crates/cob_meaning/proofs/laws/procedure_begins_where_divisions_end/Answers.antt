use Rattle.cob_meaning.proofs.Divided.{begins_there}
use Rattle.cob_meaning.proofs.laws.procedure_begins_where_divisions_end.Goals as goal

pub returns : goal.returns
returns c = begins_there
