use Rattle.com_send.proofs.Lawful.{switch_leaves}
use Rattle.com_send.proofs.laws.a_switch_leaves_other_destinations.Goals as goal

pub returns : goal.returns
returns c = λ destinations outgoing on area key at other. switch_leaves destinations outgoing on area key at other
