use Rattle.com_state.proofs.Fronts.{one_answer}
use Rattle.com_state.proofs.laws.a_step_is_determined.Goals as goal

pub returns : goal.returns
returns c = one_answer
