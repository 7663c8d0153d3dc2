-- Tables and values of a document as the code keeps them.
use Rattle.std.specs.Prelude.{ℕ, List, map}
use Rattle.toml.specs.declared.value.Value.{Value}
use Rattle.toml.specs.View.{view, table_view}
use Rattle.com_net.specs.declared.places.TableAt.{TableAt}
use Rattle.com_tree.specs.declared.tree.TreeRow.{TreeRow}
use Rattle.com_net.specs.declared.gather.Gathered.{Gathered}
use Rattle.com_net.specs.Parts.{Parts}
use Rattle.com_net.specs.Values.{text_in}
use Rattle.com_net.specs.Places.{Place}

-- what a table at a place means
abbrev pub seen : TableAt → Place
seen at = record { section = at.section; path = at.path; table = table_view at.table.now }

-- the strings of values
abbrev pub texts_in : List Value → List (List ℕ)
texts_in values = map (λ value. text_in (view value)) values

-- the parts that were gathered, with the rows of the tree
abbrev pub gathered_parts : List TreeRow → Gathered → Parts
gathered_parts rows gathered = record {
  terminals = gathered.terminals.items;
  tree = rows;
  queue_passwords = gathered.queue_passwords.items;
  leaf_on = gathered.leaf_on.items;
  units = gathered.units.items;
}
