use Rattle.cob_frames.proofs.UnitSteps.{wants}
use Rattle.cob_frames.proofs.laws.units_want_calls.Goals as goal

pub returns : goal.returns
returns c = wants
