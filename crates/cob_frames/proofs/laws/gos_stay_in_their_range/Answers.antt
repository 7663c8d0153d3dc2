use Rattle.cob_frames.proofs.FrameSteps.{go_goes_on}
use Rattle.cob_frames.proofs.laws.gos_stay_in_their_range.Goals as goal

pub returns : goal.returns
returns c = go_goes_on
