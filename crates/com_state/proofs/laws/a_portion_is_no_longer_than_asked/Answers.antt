use Rattle.com_state.proofs.Portions.{no_more_than_asked}
use Rattle.com_state.proofs.laws.a_portion_is_no_longer_than_asked.Goals as goal

pub returns : goal.returns
returns c = λ S next name area given text kind size no_data h.
    no_more_than_asked S next name area given text kind size no_data h
