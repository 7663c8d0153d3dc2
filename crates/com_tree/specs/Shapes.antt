-- Trees without their names, which no choice of a leaf depends on.
use Rattle.std.specs.Prelude.{ℕ, List, [], map}
use Rattle.com_tree.specs.declared.tree.TreeRow.{TreeRow}

-- the node without its name
abbrev pub nameless : TreeRow → TreeRow
nameless row = record { depth = row.depth; name = []; choose = row.choose }

-- the nodes without their names
abbrev pub shape : List TreeRow → List TreeRow
shape rows = map nameless rows
