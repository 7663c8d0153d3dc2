use Rattle.com_net.proofs.DescriptionLaws.{too_long, not_short}
use Rattle.com_net.proofs.laws.a_description_is_too_long_by_its_length_alone.Goals as goal

pub returns : goal.returns
returns c = λ bytes. (not_short bytes, too_long bytes)
