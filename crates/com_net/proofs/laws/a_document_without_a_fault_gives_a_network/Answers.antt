use Rattle.com_net.proofs.DescriptionLaws.{net_is_net}
use Rattle.com_net.proofs.FaultlessNets.{parts_are_net}
use Rattle.com_net.proofs.laws.a_document_without_a_fault_gives_a_network.Goals as goal

pub returns-clause-document : goal.returns-clause-document
returns-clause-document c = λ document none. parts_are_net document none

pub returns-clause-bytes : goal.returns-clause-bytes
returns-clause-bytes c = λ bytes. net_is_net bytes
