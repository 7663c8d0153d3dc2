use Rattle.com_state.proofs.Others.{nothing_left}
use Rattle.com_state.proofs.laws.nothing_is_left_of_a_stopped_unit.Goals as goal

pub returns : goal.returns
returns c = λ S next name unit reason reply found h. nothing_left S next name unit reason reply found h
