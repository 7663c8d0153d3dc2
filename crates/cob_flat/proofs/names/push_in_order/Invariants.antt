use Rattle.std.proofs.Common.{◌≡◌, ◌++◌, length}
use Rattle.cob_flat.specs.inner.Referents.{listed, names_in_order}
use Rattle.cob_flat.proofs.names.push_in_order.Given as goal

abbrev pub invariant-names : goal.invariant-names
invariant-names l =
    listed l.entries.items ++ names_in_order l.area l.names l.fields ≡ listed l.initial.entries.items ++ names_in_order l.area l.initial.names l.initial.fields

abbrev pub decreases-names : goal.decreases-names
decreases-names l = length l.names
