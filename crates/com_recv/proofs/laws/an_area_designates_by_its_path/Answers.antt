use Rattle.com_recv.proofs.Designating.{by_its_path}
use Rattle.com_recv.proofs.laws.an_area_designates_by_its_path.Goals as goal

pub returns : goal.returns
returns c = λ tree area node written. by_its_path tree area node written
