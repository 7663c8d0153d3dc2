use Rattle.cob_meaning.specs.Meaning.{unit_limits}
use Rattle.cob_meaning.proofs.WellFormedRuns.{calls_well}
use Rattle.cob_meaning.proofs.laws.calls_are_well_formed.Goals as goal

pub returns : goal.returns
returns c = λ program names replies sound texts right are fit. calls_well unit_limits program names replies sound texts right are fit
