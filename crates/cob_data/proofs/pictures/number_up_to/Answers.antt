use Rattle.std.proofs.Common.{arith}
use Rattle.cob_data.proofs.PictureLaws.{digit_next}
use Rattle.cob_data.proofs.pictures.number_up_to.Goals as goal

pub digits-preserved : goal.digits-preserved
digits-preserved c = record {
  left = digit_next 2001 c.digits.number c.from.result c.min-number.result _ c.args.digits.now c.digits.digit-index c.digits-test.true c.requires c.from.ensures c.min-number.ensures c.digits.invariant.left;
  most = omega (arith, c.min-number.ensures);
}
