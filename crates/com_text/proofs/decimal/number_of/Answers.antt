use Rattle.std.proofs.Common.{length, take_all, refl, arith}
use Rattle.std.proofs.lemmas.Bool.{eqb-false}
use Rattle.std.proofs.lemmas.Int.Digits.{digits_more}
use Rattle.std.proofs.lemmas.Str.Parse.{digit_at}
use Rattle.com_text.proofs.Numerals.{own_digits, number_more, number_room}
use Rattle.com_text.proofs.decimal.number_of.Goals as goal

pub returns-then-not-is_ascii_digit-clause-some : goal.returns-then-not-is_ascii_digit-clause-some
returns-then-not-is_ascii_digit-clause-some c = (λ e. cc, λ h. let d = digit_at c.args.bytes.now c.loop-byte.byte-index (own_digits.to _ h.digits) c.loop-byte-test.true in grind (arith, c.if-not-is_ascii_digit.ensures.cases))

pub overflow_mul-number : goal.overflow_mul-number
overflow_mul-number c = omega (arith, number_room c.args.bytes.now c.loop-byte.byte-index (omega arith) (omega arith) c.loop-byte.invariant.digits)

pub overflow_add-number : goal.overflow_add-number
overflow_add-number c = omega (arith, number_room c.args.bytes.now c.loop-byte.byte-index (omega arith) (omega arith) c.loop-byte.invariant.digits)

pub loop-byte-preserved : goal.loop-byte-preserved
loop-byte-preserved c = record {
  digits = digits_more 10 c.args.bytes.now c.loop-byte.byte-index c.loop-byte-test.true c.loop-byte.invariant.digits c.if-not-is_ascii_digit.ensures.bound;
  number = omega (arith, number_more c.args.bytes.now c.loop-byte.byte-index c.loop-byte-test.true c.if-not-is_ascii_digit.ensures.bound);
}

pub returns-clause-some : goal.returns-clause-some
returns-clause-some c =
    let whole = take_all c.loop-byte.byte-index c.args.bytes.now (omega arith) in
    (λ _. record { some = omega (arith, eqb-false (length c.args.bytes.now) 0 cc); short = omega arith; digits = own_digits.from _ (rw whole at c.loop-byte.invariant.digits) }, λ _. refl)
