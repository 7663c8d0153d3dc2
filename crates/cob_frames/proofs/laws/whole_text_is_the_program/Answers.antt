use Rattle.cob_frames.proofs.FrameSteps.{whole_text_does}
use Rattle.cob_frames.proofs.laws.whole_text_is_the_program.Goals as goal

pub returns : goal.returns
returns c = whole_text_does
