use Rattle.com_disk.proofs.Unique.{one_place}
use Rattle.com_disk.proofs.laws.a_fault_has_one_place.Goals as goal

pub returns : goal.returns
returns c = λ image at other h k. one_place image at other h k
