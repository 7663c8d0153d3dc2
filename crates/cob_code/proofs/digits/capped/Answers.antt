use Rattle.std.proofs.Common.{refl}
use Rattle.cob_code.specs.declared.digits.TheConstants.{CAP}
use Rattle.cob_code.proofs.Capping.{next_digit}
use Rattle.cob_code.proofs.digits.capped.Goals as goal

pub digits-preserved : goal.digits-preserved
digits-preserved c = record {
  value = next_digit CAP c.args.digits.now c.digits.digit-index c.digits.value c.with_digit-value.result _ _ c.digits-test.true refl c.with_digit-value.ensures.value c.digits.invariant.value;
  most = c.with_digit-value.ensures.most;
}
