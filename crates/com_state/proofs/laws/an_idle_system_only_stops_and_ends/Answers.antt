use Rattle.com_state.proofs.Idling.{only_idle_calls}
use Rattle.com_state.proofs.laws.an_idle_system_only_stops_and_ends.Goals as goal

pub returns : goal.returns
returns c = only_idle_calls
