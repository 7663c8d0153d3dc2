use Rattle.std.proofs.Common.{drop}
use Rattle.std.specs.List.{AllByRecursion}
use Rattle.cob_meaning.specs.Checked.{IsCheckedIdentifier}
use Rattle.cob_flat.specs.inner.Operands.{IsSpotOf}
use Rattle.cob_flat.proofs.Each.{AreMade}
use Rattle.cob_flat.proofs.resolve.spots.Given as goal

abbrev pub invariant-identifiers : goal.invariant-identifiers
invariant-identifiers l = record {
  checked : AllByRecursion (IsCheckedIdentifier l.names) (drop l.identifier-index l.identifiers);
  made : AreMade (IsSpotOf l.names) l.identifiers (drop l.identifier-index l.identifiers) l.spots.items;
}
