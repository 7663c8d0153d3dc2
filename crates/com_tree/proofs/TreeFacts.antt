-- What the definitions compute for rows that are written out: which are trees, and why others are none.
use Rattle.std.proofs.Common.{◌≡◌, ℕ, false, List, [], ◌∷◌, Some, None, refl, lit≤}
use Rattle.std.specs.Prelude.{codes}
use Rattle.com_tree.specs.declared.tree.TreeRow.{TreeRow}
use Rattle.com_tree.specs.declared.tree.Choose.TheVariants.{Ordered}
use Rattle.com_tree.specs.declared.build.TreeFault.TheVariants.{TwiceNamed, TooDeep, Empty}
use Rattle.com_tree.specs.Written.{is_forest, are_siblings_distinct, IsWritten}
use Rattle.com_tree.specs.Faults.{tree_fault}

abbrev leaf : ℕ → List ℕ → TreeRow
leaf depth name = record { depth = depth; name = name; choose = None }

abbrev inner : ℕ → List ℕ → TreeRow
inner depth name = record { depth = depth; name = name; choose = Some Ordered }

-- nodes of one name under two nodes
abbrev cousins : List TreeRow
cousins = inner 1 (codes "A") ∷ leaf 2 (codes "X") ∷ inner 1 (codes "B") ∷ leaf 2 (codes "X") ∷ []

IsWritten-cousins : IsWritten cousins
IsWritten-cousins = record { forest = refl; levels = refl; leaves = lit≤ tt; names = refl; distinct = refl }

tree_fault-cousins : tree_fault cousins ≡ None
tree_fault-cousins = refl

-- two nodes of one name under one node
abbrev twins : List TreeRow
twins = inner 1 (codes "A") ∷ inner 2 (codes "X") ∷ leaf 3 (codes "Y") ∷ leaf 2 (codes "X") ∷ []

are_siblings_distinct-twins : are_siblings_distinct twins ≡ false
are_siblings_distinct-twins = refl

tree_fault-twins : tree_fault twins ≡ Some (3, TwiceNamed)
tree_fault-twins = refl

-- two trees of one name
are_siblings_distinct-tops : are_siblings_distinct (inner 1 (codes "A") ∷ leaf 2 (codes "X") ∷ leaf 1 (codes "A") ∷ []) ≡ false
are_siblings_distinct-tops = refl

-- five levels
abbrev five : List TreeRow
five = inner 1 (codes "A") ∷ inner 2 (codes "A") ∷ inner 3 (codes "A") ∷ inner 4 (codes "A") ∷ inner 5 (codes "A") ∷ []

-- a row that is too deep comes before an inner node without a child
tree_fault-five : tree_fault five ≡ Some (4, TooDeep)
tree_fault-five = refl

-- a name that stands twice comes before a row that is too deep
tree_fault-six : tree_fault (inner 1 (codes "A") ∷ inner 2 (codes "A") ∷ inner 3 (codes "A") ∷ inner 4 (codes "A") ∷ leaf 5 (codes "A") ∷ leaf 1 (codes "A") ∷ []) ≡ Some (5, TwiceNamed)
tree_fault-six = refl

-- no rows at all, and an inner node without a child
tree_fault-none : tree_fault [] ≡ Some (0, Empty)
tree_fault-none = refl

tree_fault-childless : tree_fault (inner 1 (codes "A") ∷ leaf 1 (codes "B") ∷ []) ≡ Some (0, Empty)
tree_fault-childless = refl

-- rows that are no trees for the levels on which they stand
is_forest-none : is_forest [] ≡ false
is_forest-none = refl

is_forest-no_top : is_forest (leaf 2 (codes "A") ∷ []) ≡ false
is_forest-no_top = refl

is_forest-no_child : is_forest (inner 1 (codes "A") ∷ leaf 1 (codes "B") ∷ []) ≡ false
is_forest-no_child = refl

is_forest-inner_last : is_forest (leaf 1 (codes "A") ∷ inner 1 (codes "B") ∷ []) ≡ false
is_forest-inner_last = refl

is_forest-under_leaf : is_forest (leaf 1 (codes "A") ∷ leaf 2 (codes "B") ∷ []) ≡ false
is_forest-under_leaf = refl

is_forest-no_level : is_forest (inner 1 (codes "A") ∷ leaf 3 (codes "B") ∷ []) ≡ false
is_forest-no_level = refl
