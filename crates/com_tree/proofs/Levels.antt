-- What the choice of a node depends on: the leaves under it, and no more levels than there are.
use Rattle.std.proofs.Common.{◌≡◌, ℕ, zero, suc, ◌+◌, ◌<◌, ◌≤◌, true, false, List, length, drop, Some, None, refl, sym, ap, ◌∙◌, arith, inl, inr}
use Rattle.std.specs.Prelude.{Option, slice_get, option_map, unwrap_or, nat_lt}
use mathlib.Core.Bool.{cond}
use Rattle.std.proofs.lemmas.Bool.{cases_Bool}
use Rattle.std.proofs.lemmas.Option.{none-some, same_Some}
use Rattle.com_tree.specs.declared.tree.TreeRow.{TreeRow}
use Rattle.com_tree.specs.declared.tree.Node.{Node}
use Rattle.com_tree.specs.declared.tree.Choose.{Choose}
use Rattle.com_tree.specs.declared.tree.Choose.TheVariants.{Ordered, Oldest}
use Rattle.com_tree.specs.Written.{is_leaf, rows_below, leaf_count, IsWritten}
use Rattle.com_tree.specs.Places.{first_leaf, past_leaf}
use Rattle.com_tree.specs.NextLeaf.{node_at, level, is_next_level, is_later, choice}
use Rattle.com_tree.specs.Choosing.{better}
use Rattle.com_tree.proofs.Choices.{chosen_from, none_chosen, child_here, no_child, choice_of_inner}
use Rattle.com_tree.proofs.Underneath.{IsNodeAt, node_of, within_branch, child_row, counted_less, node_chosen, leaf_past, one_of}

-- the two have the same number for the leaf that was found
abbrev Agree : (ℕ → Option ℕ) → (ℕ → Option ℕ) → Option ℕ → Type 0
Agree f g found = (leaf : ℕ) → found ≡ Some leaf → f leaf ≡ g leaf

-- one of two is the better by both
same_better : (choose : Choose) (f g : ℕ → Option ℕ) (one other : Option ℕ) → Agree f g one → Agree f g other → better choose f one other ≡ better choose g one other
same_better choose f g None other here there = refl
same_better choose f g (Some a) None here there = refl
same_better Ordered f g (Some a) (Some b) here there = refl
same_better Oldest f g (Some a) (Some b) here there =
    let later : is_later f a b ≡ is_later g a b = rw (here a refl, there b refl) refl in
    ap (λ t. cond t (Some b) (Some a)) later

agree_better : (choose : Choose) (f g : ℕ → Option ℕ) (one other : Option ℕ) → Agree f g one → Agree f g other → Agree f g (better choose f one other)
agree_better choose f g one other here there = λ leaf is. elim (one_of choose f one other leaf is) [ inl first ↦ here leaf first | inr behind ↦ there leaf behind ]

-- the choices of a child are the same, and the two have the same number for it
record IsSameChild (la lb : ℕ) (rows : List TreeRow) (f g : ℕ → Option ℕ) (place : ℕ) : Type 0 where
  same : choice la rows f (node_at place) ≡ choice lb rows g (node_at place)
  agree : Agree f g (choice la rows f (node_at place))

-- where this holds of each child, the same is chosen of them
same_chosen : (count la lb : ℕ) (rows : List TreeRow) (f g : ℕ → Option ℕ) (choose : Choose) (node : Node) (at : ℕ)
    → ((place : ℕ) → at ≤ place → place < at + count → is_next_level (level rows node) (level rows (node_at place)) ≡ true → IsSameChild la lb rows f g place)
    → (chosen_from la rows f choose node at count ≡ chosen_from lb rows g choose node at count) × Agree f g (chosen_from la rows f choose node at count)
same_chosen zero la lb rows f g choose node at each =
    let none : chosen_from la rows f choose node at 0 ≡ None = sym (none_chosen la rows f choose node at) in
    (none ∙ none_chosen lb rows g choose node at, λ leaf is. absurd (none-some leaf (sym none ∙ is)))
same_chosen (suc count) la lb rows f g choose node at each =
    let behind = same_chosen count la lb rows f g choose node (at + 1) (λ place least most is. each place (omega (arith, least)) (omega (arith, most)) is) in
    let one = choice la rows f (node_at at) in
    let other = chosen_from la rows f choose node (at + 1) count in
    elim (cases_Bool (is_next_level (level rows node) (level rows (node_at at)))) [
      | inl child ↦
          let own = each at (omega arith) (omega arith) child in
          let left : better choose f one other ≡ chosen_from la rows f choose node at (suc count) = child_here la rows f choose node at (at + 1) count (suc count) one other refl refl child refl refl in
          let right : better choose g one other ≡ chosen_from lb rows g choose node at (suc count) = child_here lb rows g choose node at (at + 1) count (suc count) one other refl refl child own.same behind.0 in
          (sym left ∙ (same_better choose f g one other own.agree behind.1 ∙ right), rw (← left) (agree_better choose f g one other own.agree behind.1))
      | inr apart ↦
          let left : other ≡ chosen_from la rows f choose node at (suc count) = no_child la rows f choose node at (at + 1) count (suc count) other refl refl apart refl in
          let right : other ≡ chosen_from lb rows g choose node at (suc count) = no_child lb rows g choose node at (at + 1) count (suc count) other refl refl apart behind.0 in
          (sym left ∙ right, rw (← left) behind.1)
    ]

-- two numberings are the same on the leaves under a node
abbrev pub SameUnder : List TreeRow → (ℕ → Option ℕ) → (ℕ → Option ℕ) → ℕ → Type 0
SameUnder rows f g at = (leaf : ℕ) → first_leaf rows (node_at at) ≤ leaf → leaf < past_leaf rows (node_at at) → f leaf ≡ g leaf

-- what a node chooses depends on the leaves under it alone
pub choice_under : (levels : ℕ) (rows : List TreeRow) (f g : ℕ → Option ℕ) (at : ℕ) (row : TreeRow) → IsWritten rows → slice_get rows at ≡ Some row
    → SameUnder rows f g at → choice levels rows f (node_at at) ≡ choice levels rows g (node_at at)
choice_under zero rows f g at row written here under = refl
choice_under (suc levels) rows f g at row written here under =
    by_choice row.choose refl (λ place other there same. choice_under levels rows f g place other written there same)
  where
    node : IsNodeAt rows at row
    node = node_of rows at row written here

    by_choice : (choose : Option Choose) → row.choose ≡ choose
        → ((place : ℕ) (other : TreeRow) → slice_get rows place ≡ Some other → SameUnder rows f g place → choice levels rows f (node_at place) ≡ choice levels rows g (node_at place))
        → choice (suc levels) rows f (node_at at) ≡ choice (suc levels) rows g (node_at at)
    by_choice None is lower =
        let own = first_leaf rows (node_at at) in
        let past = leaf_past rows at row node (rw (is, is_leaf) refl) in
        let same : f own ≡ g own = under own (omega arith) (omega (arith, past)) in
        rw (here, is) (ap (option_map (λ arrival. own)) same)
    by_choice (Some choose) is lower =
        let count = length (rows_below row.depth (drop (at + 1) rows)) in
        let each : (place : ℕ) → at + 1 ≤ place → place < at + 1 + count → is_next_level (level rows (node_at at)) (level rows (node_at place)) ≡ true → IsSameChild levels levels rows f g place =
        λ place least most next.
        let other = child_row rows at place row here next in
        let below = node_of rows place other.0 written other.1 in
        let within = within_branch rows at place row other.0 node below least most other.2 in
        let before = counted_less rows at place (omega (arith, least)) in
        let inside : SameUnder rows f g place = λ leaf first past. under leaf (omega (arith, before, first)) (omega (arith, within, past)) in
        record {
          same = lower place other.0 other.1 inside;
          agree = λ leaf chosen. let waits = node_chosen levels rows f place leaf other.0 written other.1 chosen in inside leaf waits.least waits.most;
        } in
        choice_of_inner levels rows f at row choose here is ∙ ((same_chosen count levels levels rows f g choose (node_at at) (at + 1) each).0 ∙ sym (choice_of_inner levels rows g at row choose here is))

-- as many levels as there are below the top are enough
pub enough_levels : (levels : ℕ) (rows : List TreeRow) (f : ℕ → Option ℕ) (at : ℕ) (row : TreeRow) → IsWritten rows → slice_get rows at ≡ Some row → 5 ≤ row.depth + levels
    → choice (suc levels) rows f (node_at at) ≡ choice levels rows f (node_at at)
enough_levels zero rows f at row written here deep = absurd (omega (arith, deep, (node_of rows at row written here).step.most))
enough_levels (suc levels) rows f at row written here deep =
    by_choice row.choose refl (λ place other there low. enough_levels levels rows f place other written there low)
  where
    by_choice : (choose : Option Choose) → row.choose ≡ choose
        → ((place : ℕ) (other : TreeRow) → slice_get rows place ≡ Some other → 5 ≤ other.depth + levels → choice (suc levels) rows f (node_at place) ≡ choice levels rows f (node_at place))
        → choice (suc (suc levels)) rows f (node_at at) ≡ choice (suc levels) rows f (node_at at)
    by_choice None is lower = rw (here, is) refl
    by_choice (Some choose) is lower =
        let count = length (rows_below row.depth (drop (at + 1) rows)) in
        let each : (place : ℕ) → at + 1 ≤ place → place < at + 1 + count → is_next_level (level rows (node_at at)) (level rows (node_at place)) ≡ true → IsSameChild (suc levels) levels rows f f place =
        λ place least most next.
        let other = child_row rows at place row here next in
        record { same = lower place other.0 other.1 (omega (arith, deep, other.2)); agree = λ leaf chosen. refl } in
        choice_of_inner (suc levels) rows f at row choose here is ∙ ((same_chosen count (suc levels) levels rows f f choose (node_at at) (at + 1) each).0 ∙ sym (choice_of_inner levels rows f at row choose here is))
