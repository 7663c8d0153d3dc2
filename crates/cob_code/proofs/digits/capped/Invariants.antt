use Rattle.std.proofs.Common.{◌≡◌, ◌≤◌, drop}
use Rattle.std.specs.Prelude.{min}
use Rattle.std.specs.Str.Parse.{digits_value_after}
use Rattle.cob_code.specs.declared.digits.TheConstants.{CAP}
use Rattle.cob_code.proofs.digits.capped.Given as goal

abbrev pub invariant-digits : goal.invariant-digits
invariant-digits l = record {
  value : min (digits_value_after 10 l.value (drop l.digit-index l.digits)) CAP ≡ min (digits_value_after 10 0 l.digits) CAP;
  most : l.value ≤ CAP;
}
