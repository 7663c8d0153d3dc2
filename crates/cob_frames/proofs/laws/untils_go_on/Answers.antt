use Rattle.cob_frames.proofs.FrameSteps.{until_is}
use Rattle.cob_frames.proofs.laws.untils_go_on.Goals as goal

pub returns : goal.returns
returns c = until_is
