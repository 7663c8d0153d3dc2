-- The choice of a node, from its last child back.
use Rattle.std.proofs.Common.{◌≡◌, ℕ, suc, ◌+◌, true, false, List, ◌∷◌, length, drop, map, Some, None, refl, sym, ◌∙◌}
use Rattle.std.specs.Prelude.{Option, option_map, slice_get, ◌==◌, if◌then◌else◌}
use Rattle.std.specs.List.{filter, range_with_len}
use Rattle.com_tree.specs.declared.tree.TreeRow.{TreeRow}
use Rattle.com_tree.specs.declared.tree.Node.{Node}
use Rattle.com_tree.specs.declared.tree.Choose.{Choose}
use Rattle.com_tree.specs.declared.tree.Choose.TheVariants.{Ordered, Oldest}
use Rattle.com_tree.specs.Written.{rows_below}
use Rattle.com_tree.specs.Places.{first_leaf}
use Rattle.com_tree.specs.NextLeaf.{node_at, below, level, is_next_level, first_found, is_later, oldest, chosen, choice}
use Rattle.com_tree.specs.Choosing.{better}

ordered : (first : ℕ → Option ℕ) (leaf : ℕ) (behind : Option ℕ) → Some leaf ≡ better Ordered first (Some leaf) behind
ordered first leaf None = refl
ordered first leaf (Some other) = refl

by_age : (first : ℕ → Option ℕ) (leaf : ℕ) (behind : Option ℕ)
    → elim behind [ None ↦ Some leaf | Some other ↦ if is_later first leaf other then Some other else Some leaf ] ≡ better Oldest first (Some leaf) behind
by_age first leaf None = refl
by_age first leaf (Some other) = refl

-- what is chosen of some choices is by the first of them and what is chosen of the others
by_first : (choose : Choose) (first : ℕ → Option ℕ) (one : Option ℕ) (choices : List (Option ℕ)) → chosen choose first (one ∷ choices) ≡ better choose first one (chosen choose first choices)
by_first Ordered first None choices = refl
by_first Oldest first None choices = refl
by_first Ordered first (Some leaf) choices = ordered first leaf (first_found choices)
by_first Oldest first (Some leaf) choices = by_age first leaf (oldest first choices)

-- what is chosen of the children from a place on, of so many rows
abbrev pub chosen_from : ℕ → List TreeRow → (ℕ → Option ℕ) → Choose → Node → ℕ → ℕ → Option ℕ
chosen_from levels rows first choose node at count =
    chosen choose first (map (choice levels rows first)
    (filter (λ other. is_next_level (level rows node) (level rows other)) (map node_at (range_with_len at count))))

-- of no children nothing is chosen
pub none_chosen : (levels : ℕ) (rows : List TreeRow) (first : ℕ → Option ℕ) (choose : Choose) (node : Node) (at : ℕ) → None ≡ chosen_from levels rows first choose node at 0
none_chosen levels rows first Ordered node at = refl
none_chosen levels rows first Oldest node at = refl

-- a child at the place is one more choice
pub child_here : (levels : ℕ) (rows : List TreeRow) (first : ℕ → Option ℕ) (choose : Choose) (node : Node) (at next count more : ℕ) (found behind : Option ℕ) → next ≡ at + 1 → more ≡ suc count
    → is_next_level (level rows node) (level rows (node_at at)) ≡ true → found ≡ choice levels rows first (node_at at) → behind ≡ chosen_from levels rows first choose node next count
    → better choose first found behind ≡ chosen_from levels rows first choose node at more
child_here levels rows first choose node at next count more found behind step larger is one others =
    rw (larger, one, others, step, is) (sym (by_first choose first (choice levels rows first (node_at at)) _))

-- another row is none
pub no_child : (levels : ℕ) (rows : List TreeRow) (first : ℕ → Option ℕ) (choose : Choose) (node : Node) (at next count more : ℕ) (behind : Option ℕ) → next ≡ at + 1 → more ≡ suc count
    → is_next_level (level rows node) (level rows (node_at at)) ≡ false → behind ≡ chosen_from levels rows first choose node next count
    → behind ≡ chosen_from levels rows first choose node at more
no_child levels rows first choose node at next count more behind step larger is others = others ∙ rw (larger, step, is) refl

-- the test of a child by the two rows
pub child_test : (rows : List TreeRow) (at child : ℕ) (row other : TreeRow) → slice_get rows at ≡ Some row → slice_get rows child ≡ Some other
    → is_next_level (level rows (node_at at)) (level rows (node_at child)) ≡ (other.depth == row.depth + 1)
child_test rows at child row other here there = rw (here, there) refl

-- the choice of a leaf is by its own first message
pub choice_of_leaf : (levels : ℕ) (rows : List TreeRow) (first : ℕ → Option ℕ) (at : ℕ) (row : TreeRow) → slice_get rows at ≡ Some row → row.choose ≡ None
    → choice (suc levels) rows first (node_at at) ≡ option_map (λ arrival. first_leaf rows (node_at at)) (first (first_leaf rows (node_at at)))
choice_of_leaf levels rows first at row here leaf = rw (here, leaf) refl

-- the choice of an inner node is by all its children
pub choice_of_inner : (levels : ℕ) (rows : List TreeRow) (first : ℕ → Option ℕ) (at : ℕ) (row : TreeRow) (choose : Choose) → slice_get rows at ≡ Some row → row.choose ≡ Some choose
    → choice (suc levels) rows first (node_at at) ≡ chosen_from levels rows first choose (node_at at) (at + 1) (length (rows_below row.depth (drop (at + 1) rows)))
choice_of_inner levels rows first at row choose here inner = rw (here, inner, below) refl

pub all_children : (levels lower : ℕ) (rows : List TreeRow) (first : ℕ → Option ℕ) (at child count : ℕ) (row : TreeRow) (choose : Choose) (found : Option ℕ) → slice_get rows at ≡ Some row → row.choose ≡ Some choose
    → levels ≡ suc lower → child ≡ at + 1 → count ≡ length (rows_below row.depth (drop (at + 1) rows)) → found ≡ chosen_from lower rows first choose (node_at at) child count
    → found ≡ choice levels rows first (node_at at)
all_children levels lower rows first at child count row choose found here inner less begin all is =
    is ∙ rw (less, begin, all) (sym (choice_of_inner lower rows first at row choose here inner))
