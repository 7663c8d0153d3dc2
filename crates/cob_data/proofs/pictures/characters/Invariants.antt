use Rattle.std.proofs.Common.{◌≡◌, ◌≤◌, length}
use Rattle.std.specs.Prelude.{min, option_map}
use Rattle.cob_data.specs.declared.pictures.TheConstants.{PAST}
use Rattle.cob_data.specs.Pictures.{characters}
use Rattle.cob_data.proofs.PictureLaws.{with_before}
use Rattle.cob_data.proofs.pictures.characters.Given as goal

abbrev pub invariant-units : goal.invariant-units
invariant-units l = record {
  left : with_before PAST l.total (characters l.unit 0 l.rest) ≡ option_map (λ n. min n PAST) (characters l.unit 0 l.picture);
  most : l.total ≤ PAST;
}

abbrev pub decreases-units : goal.decreases-units
decreases-units l = length l.rest
