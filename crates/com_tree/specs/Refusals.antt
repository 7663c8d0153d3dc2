-- What a refusal to build a tree tells.
use Rattle.std.specs.Prelude.{◌≡◌, List, Some}
use Rattle.com_tree.specs.declared.tree.TreeRow.{TreeRow}
use Rattle.com_tree.specs.declared.build.TreeError.{TreeError}
use Rattle.com_tree.specs.declared.build.TreeError.TheVariants.{Refused, Memory}
use Rattle.com_tree.specs.Faults.{tree_fault}

-- the fault is that of these rows; want of memory tells nothing of them
abbrev pub IsRefusalOf : List TreeRow → TreeError → Type 0
IsRefusalOf rows (Refused row fault) = tree_fault rows ≡ Some (row, fault)
IsRefusalOf rows (Memory error) = Unit {0}
