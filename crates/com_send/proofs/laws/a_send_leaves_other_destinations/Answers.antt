use Rattle.com_send.proofs.Lawful.{send_leaves}
use Rattle.com_send.proofs.laws.a_send_leaves_other_destinations.Goals as goal

pub returns : goal.returns
returns c = λ destinations outgoing unit area part item at other. send_leaves destinations outgoing unit area part item at other
