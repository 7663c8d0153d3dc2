-- The leaf that a RECEIVE takes a message from stands under its node.
use Rattle.std.proofs.Common.{◌≡◌, ℕ, ◌-◌, ◌≤◌, ◌<◌, true, zero, suc, List, [], ◌∷◌, Some, None, Option, refl, sym, ap, ◌∙◌, inl, inr, arith}
use Rattle.std.specs.Prelude.{◌⊎◌, map, option_map, slice_get}
use Rattle.std.specs.List.{find, list_any}
use Rattle.std.proofs.lemmas.Bool.{cases_Bool}
use Rattle.std.proofs.lemmas.Option.{none-some, same_Some, option_and_then_some}
use Rattle.com_tree.specs.declared.tree.TreeRow.{TreeRow}
use Rattle.com_tree.specs.declared.tree.Choose.{Choose}
use Rattle.com_tree.specs.declared.tree.Choose.TheVariants.{Ordered, Oldest}
use Rattle.com_tree.specs.declared.tree.Node.{Node}
use Rattle.com_tree.specs.Places.{first_leaf, past_leaf}
use Rattle.com_tree.specs.NextLeaf.{children, first_found, is_later, oldest, chosen, choice_by, choice}
use Rattle.com_state.proofs.Frames.{option_cases}
use Rattle.com_state.proofs.Branches.{children_within, leaf_within}
use Rattle.com_recv.specs.declared.lists.Waiting.{Waiting}
use Rattle.com_recv.specs.declared.lists.Held.{Held}
use Rattle.com_recv.specs.Incoming.{first_number, leaves_of, chosen_leaf, is_held_on, held_on, held_under}
use Rattle.com_recv.proofs.Members.{Among, any_among, among_any, find_among, none_among, map_among, among_range}

-- the first that there is, is one of them
first_among : (choices : List (Option ℕ)) (leaf : ℕ) → first_found choices ≡ Some leaf → Among (Some leaf) choices
first_among [] leaf h = absurd (none-some leaf h)
first_among (None ∷ choices) leaf h = inr (first_among choices leaf h)
first_among (Some other ∷ choices) leaf h = inl (sym h)

-- so is the oldest
oldest_among : (first : ℕ → Option ℕ) (choices : List (Option ℕ)) (leaf : ℕ) → oldest first choices ≡ Some leaf → Among (Some leaf) choices
oldest_among first [] leaf h = absurd (none-some leaf h)
oldest_among first (None ∷ choices) leaf h = inr (oldest_among first choices leaf h)
oldest_among first (Some one ∷ choices) leaf h = elim (option_cases (oldest first choices)) [
  | inl none ↦ inl (sym (rw (none, oldest) at h))
  | inr some ↦ elim (cases_Bool (is_later first one some.0)) [
    | inl later ↦
        let e : Some some.0 ≡ Some leaf = rw (some.1, later, oldest) at h in
        inr (oldest_among first choices leaf (some.1 ∙ e))
    | inr sooner ↦
        let e : Some one ≡ Some leaf = rw (some.1, sooner, oldest) at h in
        inl (sym e)
  ]
]

-- and what an inner node chooses
chosen_among : (choose : Choose) (first : ℕ → Option ℕ) (choices : List (Option ℕ)) (leaf : ℕ) → chosen choose first choices ≡ Some leaf → Among (Some leaf) choices
chosen_among Ordered first choices leaf h = first_among choices leaf h
chosen_among Oldest first choices leaf h = oldest_among first choices leaf h

-- a leaf has a message here
chosen_itself : (own : ℕ) (here : Option ℕ) (leaf : ℕ) → option_map (λ arrival. own) here ≡ Some leaf → leaf ≡ own
chosen_itself own None leaf h = absurd (none-some leaf h)
chosen_itself own (Some arrival) leaf h = sym (same_Some own leaf h)

-- a leaf chooses itself, and an inner node what one of its children chooses
choice_cases : (own : ℕ) (choose : Option Choose) (first : ℕ → Option ℕ) (choices : List (Option ℕ)) (leaf : ℕ) → choice_by own choose first choices ≡ Some leaf
    → ((choose ≡ None) × (leaf ≡ own)) ⊎ Among (Some leaf) choices
choice_cases own None first choices leaf h = inl (refl, chosen_itself own (first own) leaf h)
choice_cases own (Some choose) first choices leaf h = inr (chosen_among choose first choices leaf h)

-- what a node chooses stands under it
choice_within : (levels : ℕ) (rows : List TreeRow) (first : ℕ → Option ℕ) (node : Node) (leaf : ℕ) → choice levels rows first node ≡ Some leaf
    → (first_leaf rows node ≤ leaf) × (leaf < past_leaf rows node)
choice_within zero rows first node leaf h = absurd (none-some leaf h)
choice_within (suc levels) rows first node leaf h =
    let step = λ (row : TreeRow). choice_by (first_leaf rows node) row.choose first (map (choice levels rows first) (children rows node)) in
    option_and_then_some step (slice_get rows node.row) leaf h
    (λ row here chosen_there. elim (choice_cases (first_leaf rows node) row.choose first (map (choice levels rows first) (children rows node)) leaf chosen_there) [
      | inl itself ↦ let last = leaf_within rows node row here itself.0 in (omega (arith, itself.1), omega (arith, itself.1, last))
      | inr among ↦
          let child = map_among (choice levels rows first) (Some leaf) (children rows node) among in
          let inner = choice_within levels rows first child.0 leaf child.2 in
          let outer = children_within rows node child.0 row here child.1 in
          (omega (arith, inner, outer), omega (arith, inner, outer))
    ])

-- so does the leaf that a RECEIVE takes from
chosen_within : (tree : List TreeRow) (waiting : List Waiting) (node : Node) (leaf : ℕ) → chosen_leaf tree waiting node ≡ Some leaf
    → (first_leaf tree node ≤ leaf) × (leaf < past_leaf tree node)
chosen_within tree waiting node leaf h =
    elim (option_cases (choice 4 tree (first_number waiting) node)) [
      | inl none ↦ absurd (none-some leaf (rw (none, chosen_leaf) at h))
      | inr some ↦
          let e : some.0 ≡ leaf = same_Some some.0 leaf (rw (some.1, chosen_leaf) at h) in
          choice_within 4 tree (first_number waiting) node leaf (some.1 ∙ ap (λ n. Some n) e)
    ]

-- the leaf that a node chooses is one of those under it
pub chosen_among_leaves : (tree : List TreeRow) (waiting : List Waiting) (node : Node) (leaf : ℕ) → chosen_leaf tree waiting node ≡ Some leaf → Among leaf (leaves_of tree node)
chosen_among_leaves tree waiting node leaf h =
    let within = chosen_within tree waiting node leaf h in
    among_range (first_leaf tree node) (past_leaf tree node - first_leaf tree node) leaf within.0 (omega (arith, within.0, within.1))

-- what is held under a node is held on some leaf
pub held_there : (tree : List TreeRow) (held : List Held) (unit : ℕ) (node : Node) (h : Held) → held_under tree held unit node ≡ Some h → (leaf : ℕ) × (held_on held unit leaf ≡ Some h)
held_there tree held unit node h e =
    option_and_then_some (λ leaf. held_on held unit leaf) (find (λ leaf. list_any (is_held_on unit leaf) held) (leaves_of tree node)) h e
    (λ leaf found there. (leaf, there))

-- where a unit holds nothing under a node, it holds nothing from a leaf there
pub held_nowhere : (tree : List TreeRow) (held : List Held) (unit : ℕ) (node : Node) (leaf : ℕ) (h : Held) → held_under tree held unit node ≡ None → Among leaf (leaves_of tree node)
    → Among h held → is_held_on unit leaf h ≡ true → ⊥
held_nowhere tree held unit node leaf h none under among on =
    let holds = λ (leaf : ℕ). list_any (is_held_on unit leaf) held in
    elim (option_cases (find holds (leaves_of tree node))) [
      | inl nowhere ↦ none_among holds (leaves_of tree node) leaf nowhere under (among_any (is_held_on unit leaf) h held among on)
      | inr somewhere ↦
          let there = find_among holds (leaves_of tree node) somewhere.0 somewhere.1 in
          let one = any_among (is_held_on unit somewhere.0) held there.1 in
          let absent : held_on held unit somewhere.0 ≡ None = rw (somewhere.1, held_under) at none in
          none_among (is_held_on unit somewhere.0) held one.0 absent one.1 one.2
    ]
