use Rattle.com_net.proofs.DescriptionLaws.{one_of_both}
use Rattle.com_net.proofs.laws.a_description_gives_a_network_or_a_fault.Goals as goal

pub returns : goal.returns
returns c = λ bytes. one_of_both bytes
