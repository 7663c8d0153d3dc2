use Rattle.std.proofs.Common.{◌≡◌, ◌++◌, drop}
use Rattle.cob_data.specs.Layout.{item_names}
use Rattle.cob_flat.specs.inner.Referents.{listed}
use Rattle.cob_flat.proofs.names.push_items.Given as goal

abbrev pub invariant-items : goal.invariant-items
invariant-items l = listed l.entries.items ++ item_names (drop l.item-index l.items) ≡ listed l.initial.entries.items ++ item_names l.items
