use Rattle.com_state.proofs.Consistency.{consistent}
use Rattle.com_state.proofs.laws.every_state_reached_is_consistent.Goals as goal

pub returns : goal.returns
returns c = consistent
