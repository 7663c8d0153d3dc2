use Rattle.std.proofs.Common.{◌≡◌, ◌≤◌, drop}
use Rattle.std.specs.Prelude.{min}
use Rattle.std.specs.Str.Parse.{digits_value_after}
use Rattle.com_text.specs.Digits.{number}
use Rattle.cob_data.specs.declared.pictures.TheConstants.{PAST}
use Rattle.cob_data.proofs.pictures.number_up_to.Given as goal

abbrev pub invariant-digits : goal.invariant-digits
invariant-digits l = record {
  left : min (digits_value_after 10 l.number (drop l.digit-index l.digits)) PAST ≡ min (number l.digits) PAST;
  most : l.number ≤ PAST;
}
