use Rattle.com_disk.proofs.Unique.{no_fault}
use Rattle.com_disk.proofs.laws.a_log_has_no_fault.Goals as goal

pub returns : goal.returns
returns c = λ image version at entries h fault. no_fault image version at entries h fault
