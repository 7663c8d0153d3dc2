use Rattle.std.proofs.Common.{◌≡◌, None, drop}
use Rattle.std.specs.List.{list_any}
use Rattle.cob_data.specs.Entries.{picture_in}
use Rattle.cob_data.specs.Faults.{counting_items, is_bad}
use Rattle.cob_data.proofs.records.has_bad.Given as goal

abbrev pub invariant-loop-item : goal.invariant-loop-item
invariant-loop-item l =
    list_any (λ item. is_bad (picture_in item)) (counting_items l.cover (drop l.item-index l.items)) ≡ list_any (λ item. is_bad (picture_in item)) (counting_items None l.items)
