use Rattle.com_state.proofs.Idling.{no_call_when_stopped, no_call_when_ended}
use Rattle.com_state.proofs.laws.no_call_is_left_at_the_end.Goals as goal

pub returns-clause-stopped : goal.returns-clause-stopped
returns-clause-stopped c = no_call_when_stopped

pub returns-clause-ended : goal.returns-clause-ended
returns-clause-ended c = no_call_when_ended
