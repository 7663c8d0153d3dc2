-- A node chooses a leaf exactly where some leaf under it has a number.
use Rattle.std.proofs.Common.{◌≡◌, ℕ, zero, suc, ◌+◌, ◌-◌, ◌<◌, ◌≤◌, nat_lt, Bool, true, false, List, [], ◌∷◌, ◌++◌, length, take, drop, Some, None, refl, sym, ap, ◌∙◌, arith, inl, inr, ◌⊎◌}
use Rattle.std.specs.Prelude.{Option, slice_get, ◌==◌, IsSome, IfSome, option_map, nat_le}
use Rattle.std.specs.List.{take_while}
use Rattle.std.proofs.lemmas.Bool.{cases_Bool, false≢true}
use Rattle.std.proofs.lemmas.Bool.Decides.{nat_tests}
use Rattle.std.proofs.Math.Seq.{take-add}
use Rattle.std.proofs.lemmas.List.{drop-drop, length-drop, length-append}
use Rattle.std.proofs.lemmas.List.Sums.{take_while-cons, sum_by-append}
use Rattle.std.proofs.lemmas.Option.{none-some, same_Some}
use mathlib.Core.Bool.{cond}
use Rattle.com_tree.specs.declared.tree.TreeRow.{TreeRow}
use Rattle.com_tree.specs.declared.tree.Node.{Node}
use Rattle.com_tree.specs.declared.tree.Leaf.{Leaf}
use Rattle.com_tree.specs.declared.tree.Choose.{Choose}
use Rattle.com_tree.specs.declared.tree.Choose.TheVariants.{Ordered, Oldest}
use Rattle.com_tree.specs.Written.{is_leaf, is_deeper, rows_below, leaf_count, may_follow, are_nested, IsWritten}
use Rattle.com_tree.specs.Places.{branch_of, first_leaf, past_leaf}
use Rattle.com_tree.specs.NextLeaf.{node_at, level, is_next_level, is_later, choice, next_leaf, WaitsUnder}
use Rattle.com_tree.specs.Choosing.{better}
use Rattle.com_tree.proofs.Building.{both}
use Rattle.com_tree.proofs.Branches.{as_many}
use Rattle.com_tree.proofs.Choices.{chosen_from, none_chosen, child_here, no_child, child_test, choice_of_inner}
use Rattle.com_tree.proofs.Walks.{IsNext, IsRest, IsStep, step_of, all_left, one_leaf, no_leaf}

-- the front of a list that passes a wider test goes on behind the front that passes a narrower one
front_split : (wide narrow : TreeRow → Bool) (xs : List TreeRow) → ((x : TreeRow) → narrow x ≡ true → wide x ≡ true)
    → take_while wide xs ≡ take_while narrow xs ++ take_while wide (drop (length (take_while narrow xs)) xs)
front_split wide narrow [] within = refl
front_split wide narrow (x ∷ xs) within = elim (cases_Bool (narrow x)) [
  | inl passes ↦
      rw (take_while-cons wide x xs, take_while-cons narrow x xs, passes, within x passes) (ap (λ rest. x ∷ rest) (front_split wide narrow xs within))
  | inr fails ↦ rw (take_while-cons narrow x xs, fails) refl
]

-- what stands behind the longest front of deeper rows is no deeper
next_behind : (depth : ℕ) (xs : List TreeRow) → IsNext depth (drop (length (rows_below (depth + 1) xs)) xs)
next_behind depth [] = tt
next_behind depth (x ∷ xs) = elim (cases_Bool (is_deeper (depth + 1) x)) [
  | inl deeper ↦ rw (take_while-cons (is_deeper (depth + 1)) x xs, deeper) (next_behind depth xs)
  | inr other ↦
      let low : x.depth ≤ depth + 1 = grind (arith, nat_tests, other) in
      rw (take_while-cons (is_deeper (depth + 1)) x xs, other) low
]

deeper_still : (depth : ℕ) (x : TreeRow) → is_deeper (depth + 1) x ≡ true → is_deeper depth x ≡ true
deeper_still depth x deeper = grind (arith, nat_tests, deeper)

-- the rows from a place on, past so many that stand below the level
below_from : (p : TreeRow → Bool) (j : ℕ) (xs : List TreeRow) → j ≤ length (take_while p xs) → length (take_while p (drop j xs)) + j ≡ length (take_while p xs)
below_from p zero xs within = omega arith
below_from p (suc j) [] within = absurd (omega (arith, within))
below_from p (suc j) (x ∷ xs) within = elim (cases_Bool (p x)) [
  | inl passes ↦
      let all : length (take_while p (x ∷ xs)) ≡ suc (length (take_while p xs)) = rw (take_while-cons p x xs, passes) refl in
      omega (arith, all, below_from p j xs (omega (arith, all, within)))
  | inr fails ↦
      let none : length (take_while p (x ∷ xs)) ≡ 0 = rw (take_while-cons p x xs, fails) refl in
      absurd (omega (arith, none, within))
]

-- a child under which a leaf stands
record IsChildWith (rows : List TreeRow) (depth from count leaf : ℕ) : Type 0 where
  place : ℕ
  row : TreeRow
  least : from ≤ place
  most : place < from + count
  here : slice_get rows place ≡ Some row
  level : row.depth ≡ depth + 1
  first : first_leaf rows (node_at place) ≤ leaf
  past : leaf < past_leaf rows (node_at place)

first_here : (rows xs : List TreeRow) (x : TreeRow) (at : ℕ) → drop at rows ≡ x ∷ xs → slice_get rows at ≡ Some x
first_here [] xs x zero is = cc
first_here [] xs x (suc at) is = cc
first_here (y ∷ rows) xs x zero is = cc
first_here (y ∷ rows) xs x (suc at) is = first_here rows xs x at is

pub counted_more : (rows : List TreeRow) (at m : ℕ) → leaf_count (take (at + m) rows) ≡ leaf_count (take at rows) + leaf_count (take m (drop at rows))
counted_more rows at m = ap leaf_count (take-add at m rows) ∙ sum_by-append (λ (r : TreeRow). cond (is_leaf r) 1 0) (take at rows) (take m (drop at rows))

-- a longer front has no fewer leaves
pub counted_less : (rows : List TreeRow) (i j : ℕ) → i ≤ j → leaf_count (take i rows) ≤ leaf_count (take j rows)
counted_less rows i j less =
    let same : i + (j - i) ≡ j = omega (arith, less) in
    let more : leaf_count (take j rows) ≡ leaf_count (take i rows) + leaf_count (take (j - i) (drop i rows)) = rw same at (counted_more rows i (j - i)) in
    omega (arith, more)

shorter : (n : ℕ) (xs : List TreeRow) → length (drop n xs) ≤ length xs
shorter n xs = omega (arith, length-drop n xs)

below_or_not : (a b : ℕ) → (a < b) ⊎ (b ≤ a)
below_or_not a b = elim (cases_Bool (nat_lt a b)) [
  | inl less ↦ inl (grind (arith, nat_tests, less))
  | inr more ↦ inr (grind (arith, nat_tests, more))
]

same_or_behind : (at child : ℕ) → at ≤ child → (child ≡ at) ⊎ (at + 1 ≤ child)
same_or_behind at child least = elim (cases_Bool (child == at)) [
  | inl same ↦ inl (grind (arith, nat_tests, same))
  | inr other ↦
      let apart : (child ≡ at) → ⊥ = λ is. grind (arith, nat_tests, other, is) in
      inr (omega (arith, least, apart))
]

-- each leaf of the rows below a level stands under one of those of the next level
child_with : (fuel : ℕ) (rows : List TreeRow) (depth from leaf : ℕ) (xs : List TreeRow) → drop from rows ≡ xs → IsNext depth xs → length xs ≤ fuel
    → leaf_count (take from rows) ≤ leaf → leaf < leaf_count (take from rows) + leaf_count (rows_below depth xs) → IsChildWith rows depth from (length (rows_below depth xs)) leaf
child_with fuel rows depth from leaf [] is next few least most =
    let none : leaf_count (rows_below depth []) ≡ 0 = refl in
    absurd (omega (arith, none, least, most))
child_with zero rows depth from leaf (x ∷ xs) is next few least most = absurd (omega (arith, few))
child_with (suc fuel) rows depth from leaf (x ∷ xs) is next few least most = elim (cases_Bool (is_deeper depth x)) [
  | inr other ↦
      let none : leaf_count (rows_below depth (x ∷ xs)) ≡ 0 = rw (take_while-cons (is_deeper depth) x xs, other) refl in
      absurd (omega (arith, none, least, most))
  | inl deeper ↦
      let low : depth < x.depth = grind (arith, nat_tests, deeper) in
      let level : x.depth ≡ depth + 1 = omega (arith, low, next) in
      let under = rows_below (depth + 1) xs in
      let behind = drop (length under) xs in
      let branch : branch_of (drop from rows) ≡ x ∷ under = rw (is, level) refl in
      let here = first_here rows xs x from is in
      let past : past_leaf rows (node_at from) ≡ leaf_count (take from rows) + leaf_count (x ∷ under) = ap (λ b. leaf_count (take from rows) + leaf_count b) branch in
      let split : rows_below depth (x ∷ xs) ≡ x ∷ under ++ rows_below depth behind =
      rw (take_while-cons (is_deeper depth) x xs, deeper) (ap (λ rest. x ∷ rest) (front_split (is_deeper depth) (is_deeper (depth + 1)) xs (deeper_still depth))) in
      let parts : leaf_count (rows_below depth (x ∷ xs)) ≡ leaf_count (x ∷ under) + leaf_count (rows_below depth behind) = ap leaf_count split ∙ sum_by-append (λ (r : TreeRow). cond (is_leaf r) 1 0) (x ∷ under) (rows_below depth behind) in
      let sizes : length (rows_below depth (x ∷ xs)) ≡ suc (length under) + length (rows_below depth behind) = ap length split ∙ length-append (x ∷ under) (rows_below depth behind) in
      elim (below_or_not leaf (leaf_count (take from rows) + leaf_count (x ∷ under))) [
        | inl below ↦ record {
          place = from;
          row = x;
          least = omega arith;
          most = omega (arith, sizes);
          here = here;
          level = level;
          first = least;
          past = omega (arith, past, below);
        }
        | inr above ↦
            let to = from + suc (length under) in
            let gone : drop to rows ≡ behind = sym (drop-drop (suc (length under)) from rows) ∙ ap (drop (suc (length under))) is in
            let front : take (suc (length under)) (x ∷ xs) ≡ x ∷ under = ap (λ rest. x ∷ rest) (as_many (is_deeper (depth + 1)) xs) in
            let counted : leaf_count (take to rows) ≡ leaf_count (take from rows) + leaf_count (x ∷ under) =
            counted_more rows from (suc (length under)) ∙ ap (λ r. leaf_count (take from rows) + leaf_count r) (ap (take (suc (length under))) is ∙ front) in
            let rest = child_with fuel rows depth to leaf behind gone (next_behind depth xs) (omega (arith, few, shorter (length under) xs)) (omega (arith, counted, above)) (omega (arith, counted, parts, most)) in
            record {
              place = rest.place;
              row = rest.row;
              least = omega (arith, rest.least);
              most = omega (arith, rest.most, sizes);
              here = rest.here;
              level = rest.level;
              first = rest.first;
              past = rest.past;
            }
      ]
]

some_first : (choose : Choose) (first : ℕ → Option ℕ) (one behind : Option ℕ) → IsSome one → IsSome (better choose first one behind)
some_first choose first None behind h = absurd (false≢true h)
some_first choose first (Some leaf) None h = refl
some_first Ordered first (Some leaf) (Some other) h = refl
some_first Oldest first (Some leaf) (Some other) h = elim (cases_Bool (is_later first leaf other)) [
  | inl later ↦ rw later refl
  | inr earlier ↦ rw earlier refl
]

some_behind : (choose : Choose) (first : ℕ → Option ℕ) (one behind : Option ℕ) → IsSome behind → IsSome (better choose first one behind)
some_behind choose first None behind h = h
some_behind choose first (Some leaf) behind h = some_first choose first (Some leaf) behind refl

pub one_of : (choose : Choose) (first : ℕ → Option ℕ) (one behind : Option ℕ) (leaf : ℕ) → better choose first one behind ≡ Some leaf → (one ≡ Some leaf) ⊎ (behind ≡ Some leaf)
one_of choose first None behind leaf is = inr is
one_of choose first (Some a) None leaf is = inl is
one_of Ordered first (Some a) (Some b) leaf is = inl is
one_of Oldest first (Some a) (Some b) leaf is = elim (cases_Bool (is_later first a b)) [
  | inl later ↦ inr (rw later at is)
  | inr earlier ↦ inl (rw earlier at is)
]

-- where a child has a choice, so has the node
some_chosen : (count levels : ℕ) (rows : List TreeRow) (first : ℕ → Option ℕ) (choose : Choose) (node : Node) (at child : ℕ) → at ≤ child → child < at + count
    → is_next_level (level rows node) (level rows (node_at child)) ≡ true → IsSome (choice levels rows first (node_at child)) → IsSome (chosen_from levels rows first choose node at count)
some_chosen zero levels rows first choose node at child least most is some = absurd (omega (arith, least, most))
some_chosen (suc count) levels rows first choose node at child least most is some = elim (cases_Bool (is_next_level (level rows node) (level rows (node_at at)))) [
  | inl yes_child ↦
      let one = choice levels rows first (node_at at) in
      let behind = chosen_from levels rows first choose node (at + 1) count in
      let all = child_here levels rows first choose node at (at + 1) count (suc count) one behind refl refl yes_child refl refl in
      elim (same_or_behind at child least) [
        | inl same ↦ rw (← all) (some_first choose first one behind (rw same at some))
        | inr later ↦ rw (← all) (some_behind choose first one behind (some_chosen count levels rows first choose node (at + 1) child later (omega (arith, most)) is some))
      ]
  | inr other ↦
      let all = no_child levels rows first choose node at (at + 1) count (suc count) (chosen_from levels rows first choose node (at + 1) count) refl refl other refl in
      elim (same_or_behind at child least) [
        | inl same ↦ absurd (false≢true (sym other ∙ rw same at is))
        | inr later ↦ rw (← all) (some_chosen count levels rows first choose node (at + 1) child later (omega (arith, most)) is some)
      ]
]

-- the choice of a child
record IsChildChoice (levels : ℕ) (rows : List TreeRow) (first : ℕ → Option ℕ) (node : Node) (at count leaf : ℕ) : Type 0 where
  place : ℕ
  least : at ≤ place
  most : place < at + count
  child : is_next_level (level rows node) (level rows (node_at place)) ≡ true
  choice : choice levels rows first (node_at place) ≡ Some leaf

one_behind : (count levels : ℕ) (rows : List TreeRow) (first : ℕ → Option ℕ) (node : Node) (at leaf : ℕ) → IsChildChoice levels rows first node (at + 1) count leaf → IsChildChoice levels rows first node at (suc count) leaf
one_behind count levels rows first node at leaf h = record {
  place = h.place;
  least = omega (arith, h.least);
  most = omega (arith, h.most);
  child = h.child;
  choice = h.choice;
}

-- what a node chooses is the choice of a child
one_chosen : (count levels : ℕ) (rows : List TreeRow) (first : ℕ → Option ℕ) (choose : Choose) (node : Node) (at leaf : ℕ) → chosen_from levels rows first choose node at count ≡ Some leaf
    → IsChildChoice levels rows first node at count leaf
one_chosen zero levels rows first choose node at leaf is = absurd (none-some leaf (none_chosen levels rows first choose node at ∙ is))
one_chosen (suc count) levels rows first choose node at leaf is = elim (cases_Bool (is_next_level (level rows node) (level rows (node_at at)))) [
  | inl yes_child ↦
      let one = choice levels rows first (node_at at) in
      let behind = chosen_from levels rows first choose node (at + 1) count in
      let all = child_here levels rows first choose node at (at + 1) count (suc count) one behind refl refl yes_child refl refl in
      elim (one_of choose first one behind leaf (all ∙ is)) [
        | inl here ↦ record { place = at; least = omega arith; most = omega arith; child = yes_child; choice = here }
        | inr later ↦ one_behind count levels rows first node at leaf (one_chosen count levels rows first choose node (at + 1) leaf later)
      ]
  | inr other ↦
      let all = no_child levels rows first choose node at (at + 1) count (suc count) (chosen_from levels rows first choose node (at + 1) count) refl refl other refl in
      one_behind count levels rows first node at leaf (one_chosen count levels rows first choose node (at + 1) leaf (all ∙ is))
]

-- a node and the rest of its tree
rest_at : (rows : List TreeRow) (at : ℕ) → IsRest rows → IsRest (drop at rows)
rest_at rows zero h = h
rest_at [] (suc at) h = h
rest_at (row ∷ rows) (suc at) h = rest_at rows at (step_of row rows h).rest

none_under : (row : TreeRow) (rows : List TreeRow) → are_nested row rows ≡ true → is_leaf row ≡ true → rows_below row.depth rows ≡ []
none_under row [] nested leaf = refl
none_under row (next ∷ rows) nested leaf =
    let follow : nat_le next.depth row.depth ≡ true = rw (leaf, may_follow) at (both (may_follow row next) (are_nested next rows) nested).0 in
    let higher : is_deeper row.depth next ≡ false = grind (arith, nat_tests, follow) in
    rw (take_while-cons (is_deeper row.depth) next rows, higher) refl

-- what stands where a node is
pub record IsNodeAt (rows : List TreeRow) (at : ℕ) (row : TreeRow) : Type 0 where
  pub here : slice_get rows at ≡ Some row
  pub left : drop at rows ≡ row ∷ drop (at + 1) rows
  pub nested : are_nested row (drop (at + 1) rows) ≡ true
  pub step : IsStep row (drop (at + 1) rows)

left_at : (rows : List TreeRow) (at : ℕ) (row : TreeRow) → slice_get rows at ≡ Some row → drop at rows ≡ row ∷ drop (at + 1) rows
left_at [] at row here = absurd (none-some row here)
left_at (x ∷ rows) zero row here = ap (λ y. y ∷ rows) (same_Some x row here)
left_at (x ∷ rows) (suc at) row here =
    let next : suc at + 1 ≡ suc (at + 1) = omega arith in
    rw next (left_at rows at row here)

pub node_of : (rows : List TreeRow) (at : ℕ) (row : TreeRow) → IsWritten rows → slice_get rows at ≡ Some row → IsNodeAt rows at row
node_of rows at row written here =
    let left = left_at rows at row here in
    let rest = rw left at (rest_at rows at (all_left rows written)) in
    record { here = here; left = left; nested = rest.nested; step = step_of row (drop (at + 1) rows) rest }

-- past the last leaf of a node: as many rows on as stand below it, and one
pub branch_past : (rows : List TreeRow) (at : ℕ) (row : TreeRow) → IsNodeAt rows at row → past_leaf rows (node_at at) ≡ leaf_count (take (at + suc (length (rows_below row.depth (drop (at + 1) rows)))) rows)
branch_past rows at row node =
    let under = rows_below row.depth (drop (at + 1) rows) in
    let branch : branch_of (drop at rows) ≡ row ∷ under = rw node.left refl in
    let front : take (suc (length under)) (drop at rows) ≡ row ∷ under = ap (take (suc (length under))) node.left ∙ ap (λ rest. row ∷ rest) (as_many (is_deeper row.depth) (drop (at + 1) rows)) in
    ap (λ b. leaf_count (take at rows) + leaf_count b) (branch ∙ sym front) ∙ sym (counted_more rows at (suc (length under)))

-- a leaf is the only leaf under it
pub leaf_past : (rows : List TreeRow) (at : ℕ) (row : TreeRow) → IsNodeAt rows at row → is_leaf row ≡ true → past_leaf rows (node_at at) ≡ first_leaf rows (node_at at) + 1
leaf_past rows at row node leaf =
    let none = none_under row (drop (at + 1) rows) node.nested leaf in
    let branch : branch_of (drop at rows) ≡ row ∷ [] = rw node.left (ap (λ rest. row ∷ rest) none) in
    let one = one_leaf row [] leaf in
    let nothing : leaf_count [] ≡ 0 = refl in
    omega (arith, ap leaf_count branch, one, nothing)

-- an inner node has the leaves below it
inner_past : (rows : List TreeRow) (at : ℕ) (row : TreeRow) → IsNodeAt rows at row → is_leaf row ≡ false → past_leaf rows (node_at at) ≡ leaf_count (take at rows) + leaf_count (rows_below row.depth (drop (at + 1) rows))
inner_past rows at row node inner =
    let branch : branch_of (drop at rows) ≡ row ∷ rows_below row.depth (drop (at + 1) rows) = rw node.left refl in
    omega (arith, ap leaf_count branch, no_leaf row (rows_below row.depth (drop (at + 1) rows)) inner)

inner_before : (rows : List TreeRow) (at : ℕ) (row : TreeRow) → IsNodeAt rows at row → is_leaf row ≡ false → leaf_count (take (at + 1) rows) ≡ leaf_count (take at rows)
inner_before rows at row node inner =
    let front : take 1 (drop at rows) ≡ row ∷ [] = ap (take 1) node.left in
    let nothing : leaf_count [] ≡ 0 = refl in
    omega (arith, counted_more rows at 1, ap leaf_count front, no_leaf row [] inner, nothing)

-- no more rows stand below a deeper level
no_longer : (depth lower : ℕ) (xs : List TreeRow) → depth ≤ lower → length (rows_below lower xs) ≤ length (rows_below depth xs)
no_longer depth lower [] less = omega arith
no_longer depth lower (x ∷ xs) less = elim (cases_Bool (is_deeper lower x)) [
  | inl deeper ↦
      let too : is_deeper depth x ≡ true = grind (arith, nat_tests, deeper, less) in
      let all : length (rows_below depth (x ∷ xs)) ≡ suc (length (rows_below depth xs)) = rw (take_while-cons (is_deeper depth) x xs, too) refl in
      let own : length (rows_below lower (x ∷ xs)) ≡ suc (length (rows_below lower xs)) = rw (take_while-cons (is_deeper lower) x xs, deeper) refl in
      omega (arith, all, own, no_longer depth lower xs less)
  | inr other ↦
      let none : length (rows_below lower (x ∷ xs)) ≡ 0 = rw (take_while-cons (is_deeper lower) x xs, other) refl in
      omega (arith, none)
]

numbered : (leaf : ℕ) (o : Option ℕ) → IsSome o → IsSome (option_map {T = ℕ} {U = ℕ} (λ arrival. leaf) o)
numbered leaf None h = h
numbered leaf (Some n) h = refl

numbered_here : (own leaf : ℕ) (o : Option ℕ) → option_map {T = ℕ} {U = ℕ} (λ arrival. own) o ≡ Some leaf → (leaf ≡ own) × IsSome o
numbered_here own leaf None is = absurd (none-some leaf is)
numbered_here own leaf (Some n) is = (sym (same_Some own leaf is), refl)

same_number : (a b : ℕ) → a ≡ b → (a == b) ≡ true
same_number a b is = grind (arith, nat_tests, is)

-- the row of a child
pub child_row : (rows : List TreeRow) (at child : ℕ) (row : TreeRow) → slice_get rows at ≡ Some row → is_next_level (level rows (node_at at)) (level rows (node_at child)) ≡ true
    → (other : TreeRow) × (slice_get rows child ≡ Some other) × (other.depth ≡ row.depth + 1)
child_row rows at child row here next = by_row (slice_get rows child) refl
  where
    by_row : (found : Option TreeRow) → slice_get rows child ≡ found → (other : TreeRow) × (slice_get rows child ≡ Some other) × (other.depth ≡ row.depth + 1)
    by_row None is = absurd (false≢true (rw (here, is) at next))
    by_row (Some other) is =
        let level : (other.depth == row.depth + 1) ≡ true = sym (child_test rows at child row other here is) ∙ next in
        (other, is, grind (arith, nat_tests, level))

pub within_branch : (rows : List TreeRow) (at child : ℕ) (row other : TreeRow) → IsNodeAt rows at row → IsNodeAt rows child other → at + 1 ≤ child → child < at + 1 + length (rows_below row.depth (drop (at + 1) rows)) → other.depth ≡ row.depth + 1
    → past_leaf rows (node_at child) ≤ past_leaf rows (node_at at)
within_branch rows at child row other node below least most level =
    let under = rows_below row.depth (drop (at + 1) rows) in
    let own = rows_below other.depth (drop (child + 1) rows) in
    let on : (at + 1) + (child - at) ≡ child + 1 = omega (arith, least) in
    let behind : drop (child - at) (drop (at + 1) rows) ≡ drop (child + 1) rows = drop-drop (child - at) (at + 1) rows ∙ ap (λ n. drop n rows) on in
    let rest : length (rows_below row.depth (drop (child + 1) rows)) + (child - at) ≡ length under = rw behind at (below_from (is_deeper row.depth) (child - at) (drop (at + 1) rows) (omega (arith, least, most))) in
    let fewer : length own ≤ length (rows_below row.depth (drop (child + 1) rows)) = no_longer row.depth other.depth (drop (child + 1) rows) (omega (arith, level)) in
    let one = branch_past rows at row node in
    let two = branch_past rows child other below in
    let less = counted_less rows (child + suc (length own)) (at + suc (length under)) (omega (arith, rest, fewer, least)) in
    omega (arith, one, two, less)

-- a node of a tree chooses where a message waits under it
node_chooses : (levels : ℕ) (rows : List TreeRow) (first : ℕ → Option ℕ) (at leaf : ℕ) (row : TreeRow) → IsWritten rows → slice_get rows at ≡ Some row → 5 ≤ row.depth + levels
    → WaitsUnder rows (node_at at) first leaf → IsSome (choice levels rows first (node_at at))
node_chooses zero rows first at leaf row written here deep waits = absurd (omega (arith, deep, (node_of rows at row written here).step.most))
node_chooses (suc levels) rows first at leaf row written here deep waits =
    by_choice row.choose refl (λ place other there low under. node_chooses levels rows first place leaf other written there low under)
  where
    node : IsNodeAt rows at row
    node = node_of rows at row written here

    by_choice : (choose : Option Choose) → row.choose ≡ choose
        → ((place : ℕ) (other : TreeRow) → slice_get rows place ≡ Some other → 5 ≤ other.depth + levels → WaitsUnder rows (node_at place) first leaf → IsSome (choice levels rows first (node_at place)))
        → IsSome (choice (suc levels) rows first (node_at at))
    by_choice None is lower =
        let past = leaf_past rows at row node (rw (is, is_leaf) refl) in
        let same : leaf ≡ first_leaf rows (node_at at) = omega (arith, past, waits.least, waits.most) in
        rw (here, is) (numbered (first_leaf rows (node_at at)) (first (first_leaf rows (node_at at))) (rw same at waits.waits))
    by_choice (Some choose) is lower =
        let inner : is_leaf row ≡ false = rw (is, is_leaf) refl in
        let before = inner_before rows at row node inner in
        let past = inner_past rows at row node inner in
        let child = child_with (length (drop (at + 1) rows)) rows row.depth (at + 1) leaf (drop (at + 1) rows) refl node.step.next (omega arith) (omega (arith, before, waits.least)) (omega (arith, before, past, waits.most)) in
        let own = lower child.place child.row child.here (omega (arith, deep, child.level)) (record { least = child.first; most = child.past; waits = waits.waits }) in
        let next : is_next_level (level rows (node_at at)) (level rows (node_at child.place)) ≡ true = child_test rows at child.place row child.row here child.here ∙ same_number child.row.depth (row.depth + 1) child.level in
        rw (choice_of_inner levels rows first at row choose here is)
        (some_chosen (length (rows_below row.depth (drop (at + 1) rows))) levels rows first choose (node_at at) (at + 1) child.place child.least child.most next own)

-- and what it chooses waits under it
pub node_chosen : (levels : ℕ) (rows : List TreeRow) (first : ℕ → Option ℕ) (at leaf : ℕ) (row : TreeRow) → IsWritten rows → slice_get rows at ≡ Some row
    → choice levels rows first (node_at at) ≡ Some leaf → WaitsUnder rows (node_at at) first leaf
node_chosen zero rows first at leaf row written here is = absurd (none-some leaf is)
node_chosen (suc levels) rows first at leaf row written here chosen =
    by_choice row.choose refl (λ place other there is. node_chosen levels rows first place leaf other written there is)
  where
    node : IsNodeAt rows at row
    node = node_of rows at row written here

    by_choice : (choose : Option Choose) → row.choose ≡ choose
        → ((place : ℕ) (other : TreeRow) → slice_get rows place ≡ Some other → choice levels rows first (node_at place) ≡ Some leaf → WaitsUnder rows (node_at place) first leaf)
        → WaitsUnder rows (node_at at) first leaf
    by_choice None is lower =
        let past = leaf_past rows at row node (rw (is, is_leaf) refl) in
        let own = numbered_here (first_leaf rows (node_at at)) leaf (first (first_leaf rows (node_at at))) (rw (here, is) at chosen) in
        record { least = omega (arith, own.0); most = omega (arith, own.0, past); waits = rw own.0 own.1 }
    by_choice (Some choose) is lower =
        let child = one_chosen (length (rows_below row.depth (drop (at + 1) rows))) levels rows first choose (node_at at) (at + 1) leaf (sym (choice_of_inner levels rows first at row choose here is) ∙ chosen) in
        let other = child_row rows at child.place row here child.child in
        let below = node_of rows child.place other.0 written other.1 in
        let own = lower child.place other.0 other.1 child.choice in
        let within = within_branch rows at child.place row other.0 node below child.least child.most other.2 in
        let before = counted_less rows at child.place (omega (arith, child.least)) in
        record { least = omega (arith, before, own.least); most = omega (arith, within, own.most); waits = own.waits }

pub row_at : (rows : List TreeRow) (at : ℕ) → at < length rows → (row : TreeRow) × (slice_get rows at ≡ Some row)
row_at [] at within = absurd (omega (arith, within))
row_at (row ∷ rows) zero within = (row, refl)
row_at (row ∷ rows) (suc at) within = row_at rows at (omega (arith, within))

found_number : (o : Option ℕ) → IsSome o → IsSome (option_map {T = ℕ} {U = Leaf} (λ number. record { number = number }) o)
found_number None h = h
found_number (Some n) h = refl

-- a node chooses a leaf where a message waits under it
pub chooses : (rows : List TreeRow) (node : Node) (first : ℕ → Option ℕ) (leaf : ℕ) → IsWritten rows → node.row < length rows → WaitsUnder rows node first leaf → IsSome (next_leaf rows node first)
chooses rows node first leaf written within waits =
    let row = row_at rows node.row within in
    let deep = (node_of rows node.row row.0 written row.1).step.least in
    found_number (choice 4 rows first node) (node_chooses 4 rows first node.row leaf row.0 written row.1 (omega (arith, deep)) waits)

-- on the leaf that a node chooses, a message waits, and it stands under the node
pub chosen_waits : (rows : List TreeRow) (node : Node) (first : ℕ → Option ℕ) → IsWritten rows → node.row < length rows → IfSome (next_leaf rows node first) (λ leaf. WaitsUnder rows node first leaf.number)
chosen_waits rows node first written within = by_leaf (choice 4 rows first node) refl
  where
    by_leaf : (found : Option ℕ) → choice 4 rows first node ≡ found → IfSome (option_map {T = ℕ} {U = Leaf} (λ number. record { number = number }) found) (λ leaf. WaitsUnder rows node first leaf.number)
    by_leaf None is = tt
    by_leaf (Some leaf) is =
        let row = row_at rows node.row within in
        node_chosen 4 rows first node.row leaf row.0 written row.1 is

-- where it chooses one, a message waits under it
pub some_waits : (rows : List TreeRow) (node : Node) (first : ℕ → Option ℕ) → IsWritten rows → node.row < length rows → IsSome (next_leaf rows node first) → (leaf : ℕ) × WaitsUnder rows node first leaf
some_waits rows node first written within some = by_leaf (next_leaf rows node first) some (chosen_waits rows node first written within)
  where
    by_leaf : (found : Option Leaf) → IsSome found → IfSome found (λ leaf. WaitsUnder rows node first leaf.number) → (leaf : ℕ) × WaitsUnder rows node first leaf
    by_leaf None h waits = absurd (false≢true h)
    by_leaf (Some leaf) h waits = (leaf.number, waits)
