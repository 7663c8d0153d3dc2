use Rattle.std.proofs.Common.{◌≡◌, length, arith, ap, sym, ◌∙◌}
use Rattle.com_text.specs.Digits.{number, in_digits}
use Rattle.com_text.proofs.Numerals.{number-in_digits}
use Rattle.com_text.proofs.decimal.digits.Goals as goal

pub returns-clause-number : goal.returns-clause-number
returns-clause-number c =
    let width = length c.args.into.now in
    let at_front : c.loop-place.place ≡ 0 = omega arith in
    let written : in_digits c.args.n width ≡ c.loop-place.into = rw (at_front, c.loop-place.auto.into) at c.loop-place.invariant in
    ap number (sym written) ∙ number-in_digits c.args.n width c.requires
