use Rattle.cob_meaning.proofs.NeverIdle.{never_stops_idle}
use Rattle.cob_meaning.proofs.laws.programs_never_stop_idle.Goals as goal

pub returns : goal.returns
returns c = never_stops_idle
