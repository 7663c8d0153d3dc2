use Rattle.com_send.proofs.Lawful.{send_leaves_others}
use Rattle.com_send.proofs.laws.a_send_leaves_what_others_have_begun.Goals as goal

pub returns : goal.returns
returns c = λ destinations outgoing unit other area part item at apart. send_leaves_others destinations outgoing unit other area part item at apart
