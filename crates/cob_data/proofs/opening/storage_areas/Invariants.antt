use Rattle.std.proofs.Common.{◌≡◌, ◌≤◌, ◌-◌, ◌++◌, drop, length}
use Rattle.cob_data.specs.Layout.{fill}
use Rattle.cob_data.proofs.opening.storage_areas.Given as goal

abbrev pub invariant-items : goal.invariant-items
invariant-items l = record {
  left : l.areas.items ++ (fill (drop l.place l.items)).1 ≡ (fill l.items).1;
  within : l.place ≤ length l.items;
}

abbrev pub decreases-items : goal.decreases-items
decreases-items l = length l.items - l.place
