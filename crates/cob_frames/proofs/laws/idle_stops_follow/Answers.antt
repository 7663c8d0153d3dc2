use Rattle.cob_frames.proofs.EntrySteps.{stops_idle}
use Rattle.cob_frames.proofs.laws.idle_stops_follow.Goals as goal

pub returns : goal.returns
returns c = λ party program names replies entries before call o is at.
    stops_idle party program names replies entries o before call is at
