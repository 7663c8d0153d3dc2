-- What a unit goes on with, by what is held and by what waits.
use Rattle.std.proofs.Common.{◌≡◌, ℕ, zero, suc, true, false, List, [], ◌∷◌, map, Some, None, refl, sym, ap, ◌∙◌, inl, inr}
use Rattle.std.specs.Prelude.{Option, slice_get, option_map, option_and_then, is_some}
use Rattle.std.specs.Option.{option_or}
use mathlib.Core.Bool.{cond}
use Rattle.com_msg.specs.declared.message.Message.{Message}
use Rattle.std.proofs.lemmas.Bool.{cases_Bool, false≢true}
use Rattle.std.proofs.lemmas.Option.{none-some, same_Some}
use Rattle.com_tree.specs.declared.tree.TreeRow.{TreeRow}
use Rattle.com_tree.specs.declared.tree.Choose.{Choose}
use Rattle.com_tree.specs.declared.tree.Choose.TheVariants.{Ordered, Oldest}
use Rattle.com_tree.specs.declared.tree.Node.{Node}
use Rattle.com_tree.specs.declared.tree.Leaf.{Leaf}
use Rattle.com_tree.specs.Places.{first_leaf}
use Rattle.com_tree.specs.NextLeaf.{choice, choice_by, first_found, oldest, is_later, children}
use Rattle.com_recv.specs.declared.lists.Waiting.{Waiting}
use Rattle.com_recv.specs.declared.lists.Held.{Held}
use Rattle.com_recv.specs.Incoming.{Incoming, first_number, first_on, chosen_leaf, without_first, held_under}
use Rattle.com_recv.specs.Receiving.{next_of_held, next_waiting, has_data}

-- what is chosen has a message
abbrev HasMessage : (ℕ → Option ℕ) → Option ℕ → Type 0
HasMessage first choice = (leaf : ℕ) → choice ≡ Some leaf → is_some (first leaf) ≡ true

abbrev HaveMessages : (ℕ → Option ℕ) → List (Option ℕ) → Type 0
HaveMessages first [] = Unit {0}
HaveMessages first (choice ∷ choices) = HasMessage first choice × HaveMessages first choices

no_choice : (first : ℕ → Option ℕ) → HasMessage first None
no_choice first = λ leaf is. absurd (none-some leaf is)

first_has : (first : ℕ → Option ℕ) (choices : List (Option ℕ)) → HaveMessages first choices → HasMessage first (first_found choices)
first_has first [] have = no_choice first
first_has first (None ∷ choices) have = first_has first choices have.1
first_has first (Some leaf ∷ choices) have = have.0

older_has : (first : ℕ → Option ℕ) (leaf : ℕ) (o : Option ℕ) → HasMessage first (Some leaf) → HasMessage first o → HasMessage first (elim o as (λ x. Option ℕ) [ None ↦ Some leaf | Some other ↦ cond (is_later first leaf other) (Some other) (Some leaf) ])
older_has first leaf None here there = here
older_has first leaf (Some other) here there = elim (cases_Bool (is_later first leaf other)) [
  | inl later ↦ rw later there
  | inr sooner ↦ rw sooner here
]

oldest_has : (first : ℕ → Option ℕ) (choices : List (Option ℕ)) → HaveMessages first choices → HasMessage first (oldest first choices)
oldest_has first [] have = no_choice first
oldest_has first (None ∷ choices) have = oldest_has first choices have.1
oldest_has first (Some leaf ∷ choices) have = older_has first leaf (oldest first choices) have.0 (oldest_has first choices have.1)

leaf_has : (first : ℕ → Option ℕ) (leaf : ℕ) → HasMessage first (option_map (λ arrival. leaf) (first leaf))
leaf_has first leaf = λ l is. leaf_is first leaf (first leaf) l refl is
  where
    leaf_is : (first : ℕ → Option ℕ) (leaf : ℕ) (o : Option ℕ) (l : ℕ) → first leaf ≡ o → option_map (λ (arrival : ℕ). leaf) o ≡ Some l → is_some (first l) ≡ true
    leaf_is first leaf None l e is = absurd (none-some l is)
    leaf_is first leaf (Some n) l e is = rw (← same_Some leaf l is, e) refl

by_has : (leaf : ℕ) (choose : Option Choose) (first : ℕ → Option ℕ) (choices : List (Option ℕ)) → HaveMessages first choices → HasMessage first (choice_by leaf choose first choices)
by_has leaf None first choices have = leaf_has first leaf
by_has leaf (Some Ordered) first choices have = first_has first choices have
by_has leaf (Some Oldest) first choices have = oldest_has first choices have

all_have : (first : ℕ → Option ℕ) (choose : Node → Option ℕ) → ((node : Node) → HasMessage first (choose node)) → (nodes : List Node) → HaveMessages first (map choose nodes)
all_have first choose has [] = tt
all_have first choose has (node ∷ nodes) = (has node, all_have first choose has nodes)

row_has : (leaf : ℕ) (first : ℕ → Option ℕ) (choices : List (Option ℕ)) (o : Option TreeRow) → HaveMessages first choices
    → HasMessage first (option_and_then (λ (row : TreeRow). choice_by leaf row.choose first choices) o)
row_has leaf first choices None have = no_choice first
row_has leaf first choices (Some row) have = by_has leaf row.choose first choices have

node_has : (levels : ℕ) (rows : List TreeRow) (first : ℕ → Option ℕ) (node : Node) → HasMessage first (choice levels rows first node)
node_has zero rows first node = no_choice first
node_has (suc levels) rows first node =
    row_has (first_leaf rows node) first (map (choice levels rows first) (children rows node)) (slice_get rows node.row)
    (all_have first (choice levels rows first) (node_has levels rows first) (children rows node))

number_at : (o : Option ℕ) → option_map (λ leaf. leaf.number) (option_map {U = Leaf} (λ number. record { number = number }) o) ≡ o
number_at None = refl
number_at (Some n) = refl

pub some_message : {X : Type 0} {Y : Type 0} (f : X → Y) → (o : Option X) → is_some (option_map f o) ≡ is_some o
some_message f None = refl
some_message f (Some x) = refl

-- on the leaf that a node chooses, a message waits
pub chosen_has : (tree : List TreeRow) (waiting : List Waiting) (node : Node) (leaf : ℕ) → chosen_leaf tree waiting node ≡ Some leaf → is_some (first_on waiting leaf) ≡ true
chosen_has tree waiting node leaf is =
    sym (some_message (λ (m : Message). m.arrival) (first_on waiting leaf))
    ∙ node_has 4 tree (first_number waiting) node leaf (sym (number_at (choice 4 tree (first_number waiting) node)) ∙ is)

next_of_chosen : (tree : List TreeRow) (incoming : Incoming) (node : Node) (o : Option ℕ) → chosen_leaf tree incoming.waiting node ≡ o → is_some (next_waiting tree incoming node) ≡ is_some o
next_of_chosen tree incoming node None is = rw is refl
next_of_chosen tree incoming node (Some leaf) is =
    rw is (some_message (λ (message : Message). record { leaf = leaf; rest = message; waiting = without_first leaf incoming.waiting }) (first_on incoming.waiting leaf) ∙ chosen_has tree incoming.waiting node leaf is)

or_is : {X : Type 0} → (o p : Option X) → is_some o ≡ false → option_or o p ≡ p
or_is None p none = refl
or_is (Some x) p none = absurd (false≢true (sym none))

held_next : (incoming : Incoming) (o : Option Held) → is_some (next_of_held incoming o) ≡ is_some o
held_next incoming None = refl
held_next incoming (Some h) = refl

-- where nothing is held, there is data exactly where a message waits
pub data_by_choice : (tree : List TreeRow) (incoming : Incoming) (unit : ℕ) (node : Node) → is_some (held_under tree incoming.held unit node) ≡ false → has_data tree incoming unit node ≡ is_some (chosen_leaf tree incoming.waiting node)
data_by_choice tree incoming unit node none =
    ap is_some (or_is (next_of_held incoming (held_under tree incoming.held unit node)) (next_waiting tree incoming node) (held_next incoming (held_under tree incoming.held unit node) ∙ none))
    ∙ next_of_chosen tree incoming node (chosen_leaf tree incoming.waiting node) refl

-- where something is held, there is data
pub data_by_held : (tree : List TreeRow) (incoming : Incoming) (unit : ℕ) (node : Node) (h : Held) → Some h ≡ held_under tree incoming.held unit node → has_data tree incoming unit node ≡ true
data_by_held tree incoming unit node h is = rw (← is) refl

pub none_then : {X : Type 0} {Y : Type 0} (f : X → Option Y) → (o : Option X) → is_some o ≡ false → is_some (option_and_then f o) ≡ false
none_then f None none = refl
none_then f (Some x) none = absurd (false≢true (sym none))
