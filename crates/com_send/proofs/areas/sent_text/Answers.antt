use Rattle.std.proofs.Common.{refl, inl, inr, arith}
use Rattle.std.specs.Str.{all_ascii_digits}
use Rattle.std.proofs.lemmas.Bool.{cases_Bool, false≢true}
use Rattle.com_text.proofs.Texts.{IsText-take}
use Rattle.com_text.specs.Digits.{IsNumber}
use Rattle.com_send.proofs.areas.sent_text.Goals as goal

pub returns-in_err-length-clause-characters : goal.returns-in_err-length-clause-characters
returns-in_err-length-clause-characters c =
    let digits = c.get.result.now in
    let width = c.get.ensures.width in
    elim (cases_Bool (all_ascii_digits digits)) [
      | inl are ↦
          let number : IsNumber digits = record { some = omega arith; short = omega arith; digits = are } in
          absurd (false≢true (c.in_err-length.ensures.some.1 number))
      | inr are_not ↦
          let digits_not = rw c.get.ensures.characters at are_not in
          rw (c.from_residual.ensures, c.in-Some.is, digits_not) refl
    ]

pub returns-clause-text : goal.returns-clause-text
returns-clause-text c = IsText-take c.in_ok-length.length c.as_bytes-characters.result.now (rw c.as_bytes-characters.ensures.same c.as_bytes-characters.ensures.text)
