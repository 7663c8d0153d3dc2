use Rattle.cob_frames.proofs.EntrySteps.{stops}
use Rattle.cob_frames.proofs.laws.stops_follow.Goals as goal

pub returns : goal.returns
returns c = λ party program names replies entries why o comes.
    stops party program names replies entries o why comes
