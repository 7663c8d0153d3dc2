use Rattle.cob_frames.proofs.UnitSteps.{stopped_is}
use Rattle.cob_frames.proofs.laws.units_stop.Goals as goal

pub returns : goal.returns
returns c = stopped_is
