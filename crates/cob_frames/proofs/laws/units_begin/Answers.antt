use Rattle.cob_frames.proofs.UnitSteps.{begins}
use Rattle.cob_frames.proofs.laws.units_begin.Goals as goal

pub returns : goal.returns
returns c = begins
