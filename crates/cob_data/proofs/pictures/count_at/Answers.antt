use Rattle.cob_data.proofs.PictureLaws.{front_digits}
use Rattle.cob_data.proofs.pictures.count_at.Goals as goal

pub number_up_to-requires : goal.number_up_to-requires
number_up_to-requires c = front_digits c.digit_count.result _ c.split_at.result.0.now c.split_at.ensures.front c.digit_count.ensures.count
