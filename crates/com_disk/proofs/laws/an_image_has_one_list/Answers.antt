use Rattle.com_disk.proofs.Unique.{same_log}
use Rattle.com_disk.proofs.laws.an_image_has_one_list.Goals as goal

pub returns : goal.returns
returns c = λ image version other entries others h k. same_log image version other entries others h k
