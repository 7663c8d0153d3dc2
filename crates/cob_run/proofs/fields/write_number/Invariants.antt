use Rattle.std.proofs.Common.{◌≡◌, ◌++◌, length, drop}
use Rattle.com_text.specs.Digits.{in_digits}
use Rattle.cob_run.proofs.fields.write_number.Given as goal

-- the digits that are left to write, and those written after them, are the number's
abbrev pub invariant-loop-place : goal.invariant-loop-place
invariant-loop-place l = in_digits l.n (length l.field) ≡ in_digits l.left l.place ++ drop l.place l.field
