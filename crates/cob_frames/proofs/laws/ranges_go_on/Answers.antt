use Rattle.cob_frames.proofs.FrameSteps.{range_is}
use Rattle.cob_frames.proofs.laws.ranges_go_on.Goals as goal

pub returns : goal.returns
returns c = range_is
