use Rattle.com_state.proofs.Fronts.{front_is_legal}
use Rattle.com_state.proofs.laws.a_front_is_legal.Goals as goal

pub returns : goal.returns
returns c = front_is_legal
