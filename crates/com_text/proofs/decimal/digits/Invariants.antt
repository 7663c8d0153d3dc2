use Rattle.std.proofs.Common.{◌≡◌, ◌++◌, length, drop}
use Rattle.com_text.specs.Digits.{in_digits}
use Rattle.com_text.proofs.decimal.digits.Given as goal

-- the digits that are left to write, and those written after them, are the number's
abbrev pub invariant-loop-place : goal.invariant-loop-place
invariant-loop-place l = in_digits l.n (length l.into) ≡ in_digits l.left l.place ++ drop l.place l.into
