use Rattle.com_recv.proofs.Awaited.{chosen_where_awaited}
use Rattle.com_recv.proofs.laws.has_message_tells_whether_a_leaf_is_chosen.Goals as goal

pub returns : goal.returns
returns c = λ tree waiting node written within. chosen_where_awaited tree waiting node written within
