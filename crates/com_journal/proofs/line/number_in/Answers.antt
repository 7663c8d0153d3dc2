use Rattle.std.proofs.Common.{rules, refl, sym, arith}
use Rattle.std.proofs.lemmas.Bool.{false≢true}
use Rattle.com_journal.proofs.Options.{None-of}
use Rattle.com_journal.proofs.Numbers.{IsNumeral-number_in, number_in-number, number_in-out}
use Rattle.com_journal.proofs.line.number_in.Goals.{else-least-number-via-then-least-number+else-number-most, else-least-number-via-else-least-number}
use Rattle.com_journal.proofs.line.number_in.Goals as goal

pub returns-then-has_leading_zero-clause-number : goal.returns-then-has_leading_zero-clause-number
returns-then-has_leading_zero-clause-number c =
    None-of _ (λ n h. (IsNumeral-number_in c.args.least c.args.most c.args.word.now n c.requires h).plain (search rules))

pub returns-in_err-number-clause-number : goal.returns-in_err-number-clause-number
returns-in_err-number-clause-number c =
    rw c.from_residual.ensures (None-of _ (λ n h. false≢true (c.in_err-number.ensures.some.1 (IsNumeral-number_in c.args.least c.args.most c.args.word.now n c.requires h).is_number)))

pub returns-then-number-most-clause-number : goal.returns-then-number-most-clause-number
returns-then-number-most-clause-number c =
    sym (number_in-number c.args.least c.args.most c.args.word.now c.in_ok-number.number c.requires (c.in_ok-number.ensures.some.0 refl) (search rules) c.in_ok-number.ensures.number c.if-least-number.true (omega arith))

pub returns-else-least-number-clause-number : goal.returns-else-least-number-clause-number
returns-else-least-number-clause-number c =
    let out = number_in-out c.args.least c.args.most c.args.word.now in
    elim c.else-least-number.branch [
      | else-least-number-via-then-least-number+else-number-most w ↦ out (λ low high. omega (arith, c.in_ok-number.ensures.number))
      | else-least-number-via-else-least-number w ↦ out (λ low high. omega (arith, c.in_ok-number.ensures.number))
    ]
