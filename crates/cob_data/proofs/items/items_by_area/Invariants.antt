use Rattle.std.proofs.Common.{◌≡◌, ◌≤◌, ◌+◌, ◌-◌, ◌++◌, length, drop}
use Rattle.cob_data.specs.Levels.{records_of}
use Rattle.cob_data.specs.Divisions.{items_by_area}
use Rattle.cob_data.proofs.items.items_by_area.Given as goal

abbrev pub invariant-records : goal.invariant-records
invariant-records l = record {
  left : l.list.items ++ items_by_area l.area (records_of (drop l.place l.items)) ≡ items_by_area 0 (records_of l.items);
  areas : l.area + length (records_of (drop l.place l.items)) ≡ length (records_of l.items);
  most : l.area ≤ l.place;
  within : l.place ≤ length l.items;
}

abbrev pub decreases-records : goal.decreases-records
decreases-records l = length l.items - l.place
