use Rattle.std.proofs.Common.{inr, refl}
use Rattle.cob_frames.proofs.laws.lone_idle_stops_follow.Goals as goal

pub returns : goal.returns
returns c = λ party program. inr (inr refl)
