use Rattle.std.proofs.Common.{◌≡◌, ◌++◌, drop}
use Rattle.cob_code.specs.inner.Referents.{item_entries, listed}
use Rattle.cob_code.proofs.names.push_items.Given as goal

abbrev pub invariant-items : goal.invariant-items
invariant-items l = listed l.entries.items ++ item_entries (drop l.item-index l.items) ≡ listed l.initial.entries.items ++ item_entries l.items
