use Rattle.std.proofs.Common.{◌≡◌, ◌≤◌, ◌*◌, ◌++◌, drop}
use Rattle.cob_data.specs.Divisions.{items_from}
use Rattle.cob_data.proofs.items.put_record.Given as goal

abbrev pub invariant-items : goal.invariant-items
invariant-items l = record {
  left : l.list.items ++ items_from l.area l.start (drop l.index l.items) ≡ l.initial.list.items ++ items_from l.area 0 l.items;
  most : l.start ≤ 2000 * l.index;
}
