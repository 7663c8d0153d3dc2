use Rattle.std.proofs.Common.{◌≡◌, ◌≤◌, ◌-◌, ◌++◌, length, drop}
use Rattle.cob_data.specs.Levels.{records_of}
use Rattle.cob_data.specs.Divisions.{items_over}
use Rattle.cob_data.proofs.items.items_over.Given as goal

abbrev pub invariant-records : goal.invariant-records
invariant-records l = record {
  left : l.list.items ++ items_over l.area (records_of (drop l.place l.items)) ≡ items_over l.area (records_of l.items);
  within : l.place ≤ length l.items;
}

abbrev pub decreases-records : goal.decreases-records
decreases-records l = length l.items - l.place
