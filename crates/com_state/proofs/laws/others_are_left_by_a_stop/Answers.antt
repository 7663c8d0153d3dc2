use Rattle.com_state.proofs.Others.{others_left_by_stop}
use Rattle.com_state.proofs.laws.others_are_left_by_a_stop.Goals as goal

pub returns : goal.returns
returns c = λ S next name unit other reason reply found ne h.
    others_left_by_stop S next name unit other reason reply found ne h
