use Rattle.std.proofs.Common.{◌≡◌, take}
use Rattle.std.specs.Str.Parse.{AllDigits}
use Rattle.com_text.specs.Digits.{number}
use Rattle.com_text.proofs.decimal.number_of.Given as goal

-- the bytes so far are digits, and write the number so far
abbrev pub invariant-loop-byte : goal.invariant-loop-byte
invariant-loop-byte l = record {
  digits : AllDigits 10 (take l.byte-index l.bytes);
  number : l.number ≡ number (take l.byte-index l.bytes);
}
