-- What a unit goes on with, by the messages that wait under a node and the rests that are held there.
use Rattle.std.proofs.Common.{◌≡◌, ℕ, ◌-◌, ◌<◌, ◌≤◌, Bool, true, false, ◌&&◌, List, length, Some, None, refl, sym, ap, ◌∙◌, inl, inr, arith, eq-eqb}
use Rattle.std.specs.Prelude.{Option, option_and_then, is_some, IfSome, slice_get, ◌==◌, ◌||◌, nat_le, nat_lt}
use Rattle.std.specs.List.{find, list_any}
use Rattle.std.proofs.lemmas.Bool.{cases_Bool, false≢true, and_parts, and_from, eqb-true, or_left}
use Rattle.std.proofs.lemmas.Bool.Decides.{nat_tests}
use Rattle.com_tree.specs.declared.tree.TreeRow.{TreeRow}
use Rattle.com_tree.specs.declared.tree.Node.{Node}
use Rattle.com_tree.specs.declared.tree.Leaf.{Leaf}
use Rattle.com_tree.specs.Written.{IsWritten}
use Rattle.com_tree.specs.Places.{first_leaf, past_leaf}
use Rattle.com_tree.specs.NextLeaf.{next_leaf, WaitsUnder}
use Rattle.com_tree.proofs.Underneath.{chooses, some_waits}
use Rattle.com_msg.specs.declared.message.Message.{Message}
use Rattle.com_recv.specs.declared.lists.Waiting.{Waiting}
use Rattle.com_recv.specs.declared.lists.Held.{Held}
use Rattle.com_recv.specs.Incoming.{Incoming, is_under, is_on, first_on, first_number, chosen_leaf, has_message, leaves_of, is_held_on, held_on, held_in, held_under, has_rest}
use Rattle.com_recv.specs.Receiving.{has_data}
use Rattle.com_recv.proofs.Members.{any_among, among_any, find_among, among_range, range_among}
use Rattle.com_recv.proofs.Places.{any_found, within_some}
use Rattle.com_recv.proofs.Receiving.{some_message, data_by_choice, data_by_held}

-- two tests of which each passes where the other does are the same
both_ways : (a b : Bool) → (a ≡ true → b ≡ true) → (b ≡ true → a ≡ true) → a ≡ b
both_ways a b there back = elim (cases_Bool a) [
  | inl holds ↦ holds ∙ sym (there holds)
  | inr fails ↦ elim (cases_Bool b) [
    | inl other ↦ absurd (false≢true (sym fails ∙ back other))
    | inr neither ↦ fails ∙ sym neither
  ]
]

-- a message waits on a leaf where there is a first one
waits_on : (waiting : List Waiting) (leaf : ℕ) → is_some (first_number waiting leaf) ≡ list_any (is_on leaf) waiting
waits_on waiting leaf =
    some_message (λ (m : Message). m.arrival) (first_on waiting leaf) ∙ (some_message (λ (w : Waiting). w.message) (find (is_on leaf) waiting) ∙ sym (any_found (is_on leaf) waiting))

-- a leaf between the ends is under the node
under : (tree : List TreeRow) (node : Node) (leaf : ℕ) → first_leaf tree node ≤ leaf → leaf < past_leaf tree node → is_under tree node leaf ≡ true
under tree node leaf least most =
    and_from (nat_le (first_leaf tree node) leaf) (nat_lt leaf (past_leaf tree node)) (grind (arith, nat_tests, least)) (grind (arith, nat_tests, most))

ends : (tree : List TreeRow) (node : Node) (leaf : ℕ) → is_under tree node leaf ≡ true → (first_leaf tree node ≤ leaf) × (leaf < past_leaf tree node)
ends tree node leaf is =
    let parts = and_parts (nat_le (first_leaf tree node) leaf) (nat_lt leaf (past_leaf tree node)) is in
    (grind (arith, nat_tests, parts.0), grind (arith, nat_tests, parts.1))

-- a leaf on which a message waits
awaited_on : (tree : List TreeRow) (waiting : List Waiting) (node : Node) (leaf : ℕ) → WaitsUnder tree node (first_number waiting) leaf → has_message tree waiting node ≡ true
awaited_on tree waiting node leaf waits =
    let found = any_among (is_on leaf) waiting (sym (waits_on waiting leaf) ∙ waits.waits) in
    let same : found.0.leaf.number ≡ leaf = eqb-true found.0.leaf.number leaf found.2 in
    let passes : is_under tree node found.0.leaf.number ≡ true = ap (is_under tree node) same ∙ under tree node leaf waits.least waits.most in
    among_any (λ (w : Waiting). is_under tree node w.leaf.number) found.0 waiting found.1 passes

-- a message that waits under the node
on_awaited : (tree : List TreeRow) (waiting : List Waiting) (node : Node) → has_message tree waiting node ≡ true → (leaf : ℕ) × WaitsUnder tree node (first_number waiting) leaf
on_awaited tree waiting node has =
    let found = any_among (λ (w : Waiting). is_under tree node w.leaf.number) waiting has in
    let leaf = found.0.leaf.number in
    let between = ends tree node leaf found.2 in (
      leaf,
      record {
        least = between.0;
        most = between.1;
        waits = waits_on waiting leaf ∙ among_any (is_on leaf) found.0 waiting found.1 (eq-eqb leaf leaf refl);
      },
    )

-- a node chooses a leaf exactly where a message waits under it
pub chosen_where_awaited : (tree : List TreeRow) (waiting : List Waiting) (node : Node) → IsWritten tree → node.row < length tree → is_some (chosen_leaf tree waiting node) ≡ has_message tree waiting node
chosen_where_awaited tree waiting node written within =
    some_message (λ (leaf : Leaf). leaf.number) (next_leaf tree node (first_number waiting))
    ∙ both_ways (is_some (next_leaf tree node (first_number waiting))) (has_message tree waiting node)
    (λ some. let waits = some_waits tree node (first_number waiting) written within some in awaited_on tree waiting node waits.0 waits.1)
    (λ has. let waits = on_awaited tree waiting node has in chooses tree node (first_number waiting) waits.0 written within waits.1)

-- a unit holds something from this leaf
abbrev holds_from : List Held → ℕ → ℕ → Bool
holds_from held unit leaf = list_any (is_held_on unit leaf) held

some_held : (held : List Held) (unit : ℕ) (leaves : List ℕ) → is_some (held_in held unit leaves) ≡ list_any (holds_from held unit) leaves
some_held held unit leaves = from (find (holds_from held unit) leaves) refl ∙ sym (any_found (holds_from held unit) leaves)
  where
    from : (o : Option ℕ) → find (holds_from held unit) leaves ≡ o → is_some (option_and_then (λ (leaf : ℕ). held_on held unit leaf) (find (holds_from held unit) leaves)) ≡ is_some (find (holds_from held unit) leaves)
    from None e = rw e refl
    from (Some leaf) e = rw e (sym (any_found (is_held_on unit leaf) held) ∙ (find_among (holds_from held unit) leaves leaf e).1)

-- the rest is held by the unit, from a leaf under the node
abbrev is_rest_under : List TreeRow → ℕ → Node → Held → Bool
is_rest_under tree unit node h = h.unit == unit && is_under tree node h.leaf.number

rest_from : (tree : List TreeRow) (held : List Held) (unit : ℕ) (node : Node) → list_any (holds_from held unit) (leaves_of tree node) ≡ true → has_rest tree held unit node ≡ true
rest_from tree held unit node some =
    let first = first_leaf tree node in
    let leaf = any_among (holds_from held unit) (leaves_of tree node) some in
    let between = range_among first (past_leaf tree node - first) leaf.0 leaf.1 in
    let h = any_among (is_held_on unit leaf.0) held leaf.2 in
    let parts = and_parts (h.0.unit == unit) (h.0.leaf.number == leaf.0) h.2 in
    let same : h.0.leaf.number ≡ leaf.0 = eqb-true h.0.leaf.number leaf.0 parts.1 in
    among_any (is_rest_under tree unit node) h.0 held h.1
    (and_from (h.0.unit == unit) (is_under tree node h.0.leaf.number) parts.0 (ap (is_under tree node) same ∙ under tree node leaf.0 between.0 (omega (arith, between))))

from_rest : (tree : List TreeRow) (held : List Held) (unit : ℕ) (node : Node) → has_rest tree held unit node ≡ true → list_any (holds_from held unit) (leaves_of tree node) ≡ true
from_rest tree held unit node has =
    let first = first_leaf tree node in
    let h = any_among (is_rest_under tree unit node) held has in
    let parts = and_parts (h.0.unit == unit) (is_under tree node h.0.leaf.number) h.2 in
    let leaf = h.0.leaf.number in
    let between = ends tree node leaf parts.1 in
    let here : holds_from held unit leaf ≡ true = among_any (is_held_on unit leaf) h.0 held h.1 (and_from (h.0.unit == unit) (leaf == leaf) parts.0 (eq-eqb leaf leaf refl)) in
    among_any (holds_from held unit) leaf (leaves_of tree node) (among_range first (past_leaf tree node - first) leaf between.0 (omega (arith, between))) here

-- what a unit holds under a node is a rest from a leaf there
pub held_where_rest : (tree : List TreeRow) (held : List Held) (unit : ℕ) (node : Node) → is_some (held_under tree held unit node) ≡ has_rest tree held unit node
held_where_rest tree held unit node =
    some_held held unit (leaves_of tree node)
    ∙ both_ways (list_any (holds_from held unit) (leaves_of tree node)) (has_rest tree held unit node) (rest_from tree held unit node) (from_rest tree held unit node)

-- a unit goes on with a rest that it holds under the node, or with a message that waits there
pub data_where : (tree : List TreeRow) (incoming : Incoming) (unit : ℕ) (node : Node) → IsWritten tree → node.row < length tree
    → has_data tree incoming unit node ≡ (has_rest tree incoming.held unit node || has_message tree incoming.waiting node)
data_where tree incoming unit node written within = by_held (held_under tree incoming.held unit node) refl
  where
    by_held : (o : Option Held) → held_under tree incoming.held unit node ≡ o → has_data tree incoming unit node ≡ (has_rest tree incoming.held unit node || has_message tree incoming.waiting node)
    by_held None e =
        let none : is_some (held_under tree incoming.held unit node) ≡ false = rw e refl in
        let no_rest : has_rest tree incoming.held unit node ≡ false = sym (held_where_rest tree incoming.held unit node) ∙ none in
        rw no_rest (data_by_choice tree incoming unit node none ∙ chosen_where_awaited tree incoming.waiting node written within)
    by_held (Some h) e =
        let some : is_some (held_under tree incoming.held unit node) ≡ true = rw e refl in
        let rest : has_rest tree incoming.held unit node ≡ true = sym (held_where_rest tree incoming.held unit node) ∙ some in
        data_by_held tree incoming unit node h (sym e) ∙ sym (or_left (has_rest tree incoming.held unit node) (has_message tree incoming.waiting node) rest)

there_at : (held : List Held) (o : Option ℕ) → is_some o ≡ true → IfSome o (λ at. at < length held) → is_some (option_and_then (slice_get held) o) ≡ true
there_at held None some within = absurd (false≢true some)
there_at held (Some at) some within = within_some held at within

-- there is a rest where one was found at a place
pub rest_at : (tree : List TreeRow) (held : List Held) (unit : ℕ) (node : Node) (o : Option ℕ) → option_and_then (slice_get held) o ≡ held_under tree held unit node → is_some o ≡ true
    → IfSome o (λ at. at < length held) → has_rest tree held unit node ≡ true
rest_at tree held unit node o found some within =
    sym (held_where_rest tree held unit node) ∙ (ap is_some (sym found) ∙ there_at held o some within)
