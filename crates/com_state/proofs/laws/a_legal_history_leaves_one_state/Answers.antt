use Rattle.com_state.proofs.Fronts.{state_left, left_by}
use Rattle.com_state.proofs.laws.a_legal_history_leaves_one_state.Goals as goal

pub returns-clause-left : goal.returns-clause-left
returns-clause-left c = state_left

pub returns-clause-alone : goal.returns-clause-alone
returns-clause-alone c = left_by
