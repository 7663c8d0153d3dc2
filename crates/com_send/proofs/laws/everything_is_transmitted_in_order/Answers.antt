use Rattle.com_send.proofs.Lawful.{in_order}
use Rattle.com_send.proofs.laws.everything_is_transmitted_in_order.Goals as goal

pub returns : goal.returns
returns c = λ destinations units verbs at within. in_order destinations units verbs at within
