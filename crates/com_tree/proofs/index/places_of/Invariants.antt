use Rattle.std.proofs.Common.{◌≡◌, length}
use Rattle.com_tree.specs.inner.Index.{ArePlaces}
use Rattle.com_tree.proofs.index.places_of.Given as goal

-- the places so far
abbrev pub invariant-loop-at : goal.invariant-loop-at
invariant-loop-at l = record {
  size : length l.places.items ≡ l.at;
  each : ArePlaces l.rows l.places.items;
}
