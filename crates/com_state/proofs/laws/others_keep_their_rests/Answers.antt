use Rattle.com_state.proofs.Others.{others_keep}
use Rattle.com_state.proofs.laws.others_keep_their_rests.Goals as goal

pub returns : goal.returns
returns c = λ S next name unit other area kind size no_data reply found ne h.
    others_keep S next name unit other area kind size no_data reply found ne h
