use Rattle.std.proofs.Common.{◌≡◌, ◌≤◌, ◌+◌, ◌*◌, None, drop}
use Rattle.cob_data.specs.Faults.{counting_items, record_size}
use Rattle.cob_data.proofs.records.record_size.Given as goal

abbrev pub invariant-loop-item : goal.invariant-loop-item
invariant-loop-item l = record {
  left : l.size + record_size (counting_items l.cover (drop l.item-index l.items)) ≡ record_size (counting_items None l.items);
  most : l.size ≤ 2000 * l.item-index;
}
