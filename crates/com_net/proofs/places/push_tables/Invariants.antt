use Rattle.std.proofs.Common.{◌≡◌, ◌+◌, ◌≤◌, ◌++◌, map, drop}
use Rattle.toml.specs.View.{items_view}
use Rattle.com_net.specs.Values.{tables_of}
use Rattle.com_net.specs.Places.{places_from}
use Rattle.com_net.specs.inner.Seen.{seen}
use Rattle.com_net.proofs.places.push_tables.Given as goal

-- with those that are left, all are there
abbrev pub invariant-loop-value : goal.invariant-loop-value
invariant-loop-value l = record {
  tables : map seen l.found.items ++ places_from l.number l.section l.path (tables_of (items_view (drop l.value-index l.values)))
      ≡ map seen l.initial.found.items ++ places_from 1 l.section l.path (tables_of (items_view l.values));
  number : l.number ≤ l.value-index + 1;
}
