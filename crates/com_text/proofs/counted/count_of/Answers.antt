use Rattle.std.proofs.Common.{◌≡◌, Some, ap, refl, ◌∙◌, arith}
use Rattle.std.proofs.lemmas.Bool.{false≢true, iff_false}
use Rattle.com_text.specs.Counted.{HasLeadingZero}
use Rattle.com_text.specs.Digits.{number}
use Rattle.com_text.proofs.CountedFields.{digits-count, IsCount-decimal}
use Rattle.com_text.proofs.counted.count_of.Goals as goal
use Rattle.com_text.proofs.counted.count_of.Goals.{then-digits-gt-COUNT_DIGITS-via-then-digits-gt-COUNT_DIGITS, then-digits-gt-COUNT_DIGITS-via-else-digits-gt-COUNT_DIGITS+then-has_leading_zero}

pub returns-then-digits-gt-COUNT_DIGITS : goal.returns-then-digits-gt-COUNT_DIGITS
returns-then-digits-gt-COUNT_DIGITS c count = (
  λ e. cc,
  λ h.
      let read = IsCount-decimal c.args.digits.now count h.0 h.1 in
      elim c.then-digits-gt-COUNT_DIGITS.branch [
        | then-digits-gt-COUNT_DIGITS-via-then-digits-gt-COUNT_DIGITS w ↦ absurd (omega arith)
        | then-digits-gt-COUNT_DIGITS-via-else-digits-gt-COUNT_DIGITS+then-has_leading_zero w ↦ absurd (read.plain (w.has_leading_zero.ensures.0 w.if-has_leading_zero.true))
      ],
)

pub returns : goal.returns
returns c count =
    let digits = c.args.digits.now in
    let plain = λ (zero : HasLeadingZero digits). iff_false c.has_leading_zero.ensures c.if-has_leading_zero.false zero in
    let written = digits-count digits (c.in_ok-count.ensures.some.0 refl) (omega arith) plain in (
      λ e. let same : number digits ≡ count = cc (c.in_ok-count.ensures.number) in (rw same at written.0, rw same at written.1),
      λ h. ap Some (c.in_ok-count.ensures.number ∙ (IsCount-decimal digits count h.0 h.1).number),
    )

pub returns-in_err-count : goal.returns-in_err-count
returns-in_err-count c count =
    (λ e. cc, λ h. absurd (false≢true (c.in_err-count.ensures.some.1 (IsCount-decimal c.args.digits.now count h.0 h.1).is_number)))
