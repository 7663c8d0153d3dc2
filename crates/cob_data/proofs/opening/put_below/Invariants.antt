use Rattle.std.proofs.Common.{◌≡◌, ◌≤◌, ◌-◌, ◌++◌, drop, length}
use Rattle.cob_data.specs.Layout.{fill}
use Rattle.cob_data.proofs.opening.put_below.Given as goal

abbrev pub invariant-items : goal.invariant-items
invariant-items l = record {
  characters : l.area.items ++ (fill (drop l.place l.items)).0 ≡ l.initial.area.items ++ (fill (drop l.from l.items)).0;
  others : (fill (drop l.place l.items)).1 ≡ (fill (drop l.from l.items)).1;
  past : l.from ≤ l.place;
  within : l.place ≤ length l.items;
}

abbrev pub decreases-items : goal.decreases-items
decreases-items l = length l.items - l.place
