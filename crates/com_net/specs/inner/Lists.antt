-- What one table of a description adds to the lists of a network.
use Rattle.std.specs.Prelude.{ℕ, ◌==◌, List, [], ◌∷◌, if◌then◌else◌}
use Rattle.std.specs.List.{flat_map}
use Rattle.com_tree.specs.declared.tree.TreeRow.{TreeRow}
use Rattle.com_net.specs.declared.net.Terminal.{Terminal}
use Rattle.com_net.specs.declared.net.UnitRow.{UnitRow}
use Rattle.com_net.specs.declared.keys.Section.TheVariants as section
use Rattle.com_net.specs.declared.keys.Key.TheVariants as key
use Rattle.com_net.specs.Parts.{Parts}
use Rattle.com_net.specs.Values.{string_at}
use Rattle.com_net.specs.Places.{Place}
use Rattle.com_net.specs.Description.{terminal_of, unit_of, leaf_flags}

abbrev pub terminals_of : List TreeRow → Place → List Terminal
terminals_of rows place = elim place.section [
  | section.Terminal ↦ terminal_of rows place.table ∷ []
  | _ ↦ []
]

abbrev pub passwords_of : Place → List (List ℕ)
passwords_of place = elim place.section [
  | section.Queue level ↦ if level == 1 then string_at key.Password place.table ∷ [] else []
  | _ ↦ []
]

abbrev pub units_of : List TreeRow → Place → List UnitRow
units_of rows place = elim place.section [
  | section.Unit ↦ unit_of rows place.table ∷ []
  | _ ↦ []
]

-- the parts that tables give, one after another
abbrev pub parts_from : List TreeRow → List Place → Parts
parts_from rows places = record {
  terminals = flat_map (terminals_of rows) places;
  tree = rows;
  queue_passwords = flat_map passwords_of places;
  leaf_on = flat_map leaf_flags places;
  units = flat_map (units_of rows) places;
}
