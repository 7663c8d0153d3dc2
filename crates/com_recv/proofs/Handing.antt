-- A RECEIVE that hands out a portion, and what waits and is held after it.
use Rattle.std.proofs.Common.{◌≡◌, ℕ, zero, suc, ◌<◌, ◌≤◌, Bool, true, false, List, [], ◌∷◌, length, take, drop, Some, None, refl, sym, ap, subst, ◌∙◌, arith, inl, inr, not}
use Rattle.std.specs.Prelude.{Option, slice_get, option_and_then, is_some, ◌==◌, ◌&&◌}
use Rattle.std.specs.List.{All, find, position, position_or_len, remove, list_any}
use Rattle.std.proofs.lemmas.Bool.{cases_Bool, false≢true}
use Rattle.std.proofs.lemmas.Bool.Decides.{nat_tests}
use Rattle.std.proofs.lemmas.List.Elements.{All-append, All-take, All-drop, All-filter, All-cons}
use Rattle.std.proofs.lemmas.List.Quantifiers.{all_pairs_remove}
use Rattle.std.proofs.lemmas.Option.{none-some, same_Some, get_or_from_slice_get}
use Rattle.com_msg.specs.declared.message.Message.{Message}
use Rattle.com_msg.specs.declared.rest.Kind.{Kind}
use Rattle.com_msg.specs.Portion.{take_portion}
use Rattle.com_tree.specs.declared.tree.TreeRow.{TreeRow}
use Rattle.com_tree.specs.declared.tree.Node.{Node}
use Rattle.com_tree.specs.Written.{leaf_count}
use Rattle.com_recv.specs.declared.lists.Waiting.{Waiting}
use Rattle.com_recv.specs.declared.lists.Held.{Held}
use Rattle.com_recv.specs.declared.queues.Taken.TheVariants.{Given, NoData}
use Rattle.com_recv.specs.Incoming.{Incoming, IsEarlier, IsSound, IsTreeOf, is_on, is_held_on, held_on, held_under, leaves_of, without_held, with_held, holding, first_on, chosen_leaf, place_of_choice, without_first, designated}
use Rattle.com_recv.specs.Areas.{no_data_area}
use Rattle.com_recv.specs.Receiving.{Next, next_rest, give, receive_next, receive_at, receive}
use Rattle.com_recv.specs.declared.giving.Request.{Request}
use Rattle.com_recv.specs.Giving.{Gives}
use Rattle.com_recv.proofs.Places.{found_at_place, place_is}
use Rattle.com_recv.proofs.Receiving.{chosen_has}

-- what a unit holds then, with what is left of a message where anything is
abbrev left_with : ℕ → ℕ → Message → Held
left_with unit leaf rest = record { unit = unit; leaf = record { number = leaf }; rest = rest }

all_with : (P : Held → Type 0) → (unit leaf : ℕ) (rest : Message) (pieces : List (List ℕ)) (held : List Held) → (1 ≤ length pieces → P (left_with unit leaf rest)) → All P held → All P (with_held unit leaf rest pieces held)
all_with P unit leaf rest [] held one all = all
all_with P unit leaf rest (piece ∷ pieces) held one all = All-cons P (left_with unit leaf rest) held (one (omega arith)) all

-- what holds of what is held, and of a rest that has a piece, holds of what is held then
pub all_holding : (P : Held → Type 0) → (unit leaf : ℕ) (rest : Message) (held : List Held) → (1 ≤ length rest.segments → P (left_with unit leaf rest)) → All P held → All P (holding unit leaf rest held)
all_holding P unit leaf rest held one all =
    all_with P unit leaf rest rest.segments (without_held unit leaf held) one (All-filter (λ (h : Held). not (is_held_on unit leaf h)) P held all)

-- what is held when a portion was given is sound, and comes from leaves of the tree
pub sound_given : (tree : List TreeRow) (request : Request) (leaf : ℕ) (rest : Message) (incoming : Incoming) (waiting : List Waiting) (area told : List ℕ) (left : List Held) (text : List ℕ)
    → Gives tree request leaf rest incoming.held area told left text → IsSound (record incoming { waiting = waiting }) → IsSound (record { waiting = waiting; held = left })
sound_given tree request leaf rest incoming waiting area told left text gives sound = record {
  waiting = sound.waiting;
  held = rw gives.kept (all_holding (λ (h : Held). 1 ≤ length h.rest.segments) request.unit leaf (take_portion request.kind request.size rest).1 incoming.held (λ some. some) sound.held);
  in_order = sound.in_order;
}

pub tree_given : (tree : List TreeRow) (request : Request) (leaf : ℕ) (rest : Message) (incoming : Incoming) (waiting : List Waiting) (area told : List ℕ) (left : List Held) (text : List ℕ)
    → Gives tree request leaf rest incoming.held area told left text → leaf < leaf_count tree → IsTreeOf tree (record incoming { waiting = waiting }) → IsTreeOf tree (record { waiting = waiting; held = left })
tree_given tree request leaf rest incoming waiting area told left text gives within is = record {
  written = is.written;
  waiting = is.waiting;
  held = rw gives.kept (all_holding (λ (h : Held). h.leaf.number < leaf_count tree) request.unit leaf (take_portion request.kind request.size rest).1 incoming.held (λ some. within) is.held);
}

pub removed_all : {X : Type 0} (P : X → Type 0) → (xs : List X) (at : ℕ) → All P xs → All P (remove xs at)
removed_all P xs at all = All-append P (take at xs) (drop (suc at) xs) (All-take P at xs all) (All-drop P (suc at) xs all)

-- what waits without one message is sound, and on the tree
pub sound_removed : (incoming : Incoming) (waiting : List Waiting) (at : ℕ) → waiting ≡ remove incoming.waiting at → at < length incoming.waiting → IsSound incoming → IsSound (record incoming { waiting = waiting })
sound_removed incoming waiting at is within sound = record {
  waiting = rw is (removed_all (λ (w : Waiting). 1 ≤ length w.message.segments) incoming.waiting at sound.waiting);
  held = sound.held;
  in_order = rw is (all_pairs_remove IsEarlier incoming.waiting at within sound.in_order);
}

pub tree_removed : (tree : List TreeRow) (incoming : Incoming) (waiting : List Waiting) (at : ℕ) → waiting ≡ remove incoming.waiting at → IsTreeOf tree incoming → IsTreeOf tree (record incoming { waiting = waiting })
tree_removed tree incoming waiting at is on = record {
  written = on.written;
  waiting = rw is (removed_all (λ (w : Waiting). w.leaf.number < leaf_count tree) incoming.waiting at on.waiting);
  held = on.held;
}

-- an element of a list stands at each place within it
pub there_is : {X : Type 0} → (xs : List X) (at : ℕ) → at < length xs → (x : X) × (slice_get xs at ≡ Some x)
there_is [] at within = absurd (omega (arith, within))
there_is (x ∷ xs) zero within = (x, refl)
there_is (x ∷ xs) (suc at) within = there_is xs at (omega (arith, within))

pub stands_on : {X : Type 0} (P : X → Type 0) → (xs : List X) (at : ℕ) (x : X) → at < length xs → All P xs → slice_get xs at ≡ Some x → P x
stands_on P xs at x within all is = subst P (get_or_from_slice_get xs at x x is) (all at x within)

passes_where_found : {X : Type 0} (p : X → Bool) → (xs : List X) (x : X) → find p xs ≡ Some x → p x ≡ true
passes_where_found p [] x is = absurd (none-some x is)
passes_where_found p (y ∷ xs) x is = elim (cases_Bool (p y)) [
  | inl passes ↦ rw (same_Some y x (rw passes at is)) at passes
  | inr fails ↦ passes_where_found p xs x (rw fails at is)
]

and_left : (a b : Bool) → (a && b) ≡ true → a ≡ true
and_left true b both = refl
and_left false b both = both

held_by : (held : List Held) (unit : ℕ) (o : Option ℕ) (h : Held) → option_and_then (λ leaf. held_on held unit leaf) o ≡ Some h → h.unit ≡ unit
held_by held unit None h is = absurd (none-some h is)
held_by held unit (Some leaf) h is =
    let same : (h.unit == unit) ≡ true = and_left (h.unit == unit) (h.leaf.number == leaf) (passes_where_found (is_held_on unit leaf) held h is) in
    grind (arith, nat_tests, same)

-- what a unit holds under a node is its own
pub held_by_unit : (tree : List TreeRow) (held : List Held) (unit : ℕ) (node : Node) (h : Held) → held_under tree held unit node ≡ Some h → h.unit ≡ unit
held_by_unit tree held unit node h is = held_by held unit (find (λ leaf. list_any (is_held_on unit leaf) held) (leaves_of tree node)) h is

-- the message at the place of the choice, its leaf, and that it is the first there
pub record IsFirstAt (tree : List TreeRow) (waiting : List Waiting) (node : Node) (at : ℕ) (w : Waiting) : Type 0 where
  pub there : slice_get waiting at ≡ Some w
  pub within : at < length waiting
  pub chosen : chosen_leaf tree waiting node ≡ Some w.leaf.number
  pub first : first_on waiting w.leaf.number ≡ Some w.message
  pub removed : remove waiting at ≡ without_first w.leaf.number waiting

pub removed_first : (leaf : ℕ) (waiting : List Waiting) → position_or_len (is_on leaf) waiting < length waiting → remove waiting (position_or_len (is_on leaf) waiting) ≡ without_first leaf waiting
removed_first leaf [] within = absurd (omega (arith, within))
removed_first leaf (w ∷ waiting) within = elim (cases_Bool (w.leaf.number == leaf)) [
  | inl same ↦ rw same refl
  | inr other ↦
      let n = position_or_len (is_on leaf) waiting in
      let next : position_or_len (is_on leaf) (w ∷ waiting) ≡ suc n = rw other (omega arith) in
      let behind : without_first leaf (w ∷ waiting) ≡ w ∷ without_first leaf waiting = rw other refl in
      ap (remove (w ∷ waiting)) next ∙ (ap (λ rest. w ∷ rest) (removed_first leaf waiting (omega (arith, next, within))) ∙ sym behind)
]

first_at_place : (tree : List TreeRow) (waiting : List Waiting) (node : Node) (leaf at : ℕ) (w : Waiting) → chosen_leaf tree waiting node ≡ Some leaf → position (is_on leaf) waiting ≡ Some at
    → slice_get waiting at ≡ Some w → IsFirstAt tree waiting node at w
first_at_place tree waiting node leaf at w chosen place there =
    let found : find (is_on leaf) waiting ≡ Some w = sym (found_at_place (is_on leaf) waiting) ∙ (ap (option_and_then (slice_get waiting)) place ∙ there) in
    let passes : (w.leaf.number == leaf) ≡ true = passes_where_found (is_on leaf) waiting w found in
    let same : w.leaf.number ≡ leaf = grind (arith, nat_tests, passes) in
    let is = place_is (is_on leaf) waiting at place in
    record {
      there = there;
      within = is.1;
      chosen = rw same chosen;
      first = rw (same, found) refl;
      removed = rw same (ap (remove waiting) (sym is.0) ∙ removed_first leaf waiting (omega (arith, is.0, is.1)));
    }

chosen_place : (waiting : List Waiting) (o : Option ℕ) (at : ℕ) → Some at ≡ option_and_then (λ (leaf : ℕ). position (is_on leaf) waiting) o → (leaf : ℕ) × (o ≡ Some leaf) × (position (is_on leaf) waiting ≡ Some at)
chosen_place waiting None at is = absurd (none-some at (sym is))
chosen_place waiting (Some leaf) at is = (leaf, refl, sym is)

-- the message at the place of the choice is the first on the chosen leaf
pub first_at : (tree : List TreeRow) (waiting : List Waiting) (node : Node) (at : ℕ) → Some at ≡ place_of_choice tree waiting node → (w : Waiting) × IsFirstAt tree waiting node at w
first_at tree waiting node at is =
    let at_leaf = chosen_place waiting (chosen_leaf tree waiting node) at is in
    let w = there_is waiting at (place_is (is_on at_leaf.0) waiting at at_leaf.2).1 in
    (w.0, first_at_place tree waiting node at_leaf.0 at w.0 at_leaf.1 at_leaf.2 w.1)

-- what is given of what the unit holds is what RECEIVE gives
pub received_held : (tree : List TreeRow) (incoming : Incoming) (request : Request) (area : List ℕ) (node : Node) (h : Held) (told : List ℕ) (left : List Held) (text : List ℕ)
    → Some node ≡ designated tree area → held_under tree incoming.held request.unit node ≡ Some h → Gives tree request h.leaf.number h.rest incoming.held area told left text
    → (Given text, told, record incoming { held = left }) ≡ receive tree incoming request.unit area request.kind request.size
received_held tree incoming request area node h told left text named is gives =
    let found : Next = record { leaf = h.leaf.number; rest = h.rest; waiting = incoming.waiting } in
    let next : next_rest tree incoming request.unit node ≡ Some found = rw is refl in
    let given : (Given text, told, record incoming { held = left }) ≡ give tree incoming request.unit area request.kind request.size found = rw (gives.given, gives.shown, gives.kept) refl in
    given ∙ (ap (receive_next tree incoming request.unit area request.kind request.size) (sym next) ∙ ap (receive_at tree incoming request.unit area request.kind request.size) named)

-- what is given of the message that the node chooses is what RECEIVE gives where the unit holds
-- nothing
pub received_waiting : (tree : List TreeRow) (incoming : Incoming) (request : Request) (area : List ℕ) (node : Node) (at : ℕ) (w : Waiting) (told : List ℕ) (left : List Held) (behind : List Waiting) (text : List ℕ)
    → Some node ≡ designated tree area → held_under tree incoming.held request.unit node ≡ None → IsFirstAt tree incoming.waiting node at w → Gives tree request w.leaf.number w.message incoming.held area told left text
    → behind ≡ remove incoming.waiting at
    → (Given text, told, record { waiting = behind; held = left }) ≡ receive tree incoming request.unit area request.kind request.size
received_waiting tree incoming request area node at w told left behind text named none first gives taken =
    let found : Next = record { leaf = w.leaf.number; rest = w.message; waiting = without_first w.leaf.number incoming.waiting } in
    let next : next_rest tree incoming request.unit node ≡ Some found = rw (none, first.chosen, first.first) refl in
    let others : behind ≡ without_first w.leaf.number incoming.waiting = taken ∙ first.removed in
    let given : (Given text, told, record { waiting = behind; held = left }) ≡ give tree incoming request.unit area request.kind request.size found = rw (gives.given, gives.shown, gives.kept, others) refl in
    given ∙ (ap (receive_next tree incoming request.unit area request.kind request.size) (sym next) ∙ ap (receive_at tree incoming request.unit area request.kind request.size) named)

none_first : (waiting : List Waiting) (leaf : ℕ) → None ≡ position (is_on leaf) waiting → is_some (first_on waiting leaf) ≡ false
none_first waiting leaf none =
    let found : find (is_on leaf) waiting ≡ None = sym (found_at_place (is_on leaf) waiting) ∙ ap (option_and_then (slice_get waiting)) (sym none) in
    rw found refl

none_chosen : (tree : List TreeRow) (waiting : List Waiting) (node : Node) (o : Option ℕ) → chosen_leaf tree waiting node ≡ o → None ≡ option_and_then (λ (leaf : ℕ). position (is_on leaf) waiting) o → chosen_leaf tree waiting node ≡ None
none_chosen tree waiting node None is none = is
none_chosen tree waiting node (Some leaf) is none = absurd (false≢true (sym (none_first waiting leaf none) ∙ chosen_has tree waiting node leaf is))

-- nothing is given where nothing is held and nothing waits
pub received_nothing : (tree : List TreeRow) (incoming : Incoming) (unit : ℕ) (area : List ℕ) (kind : Kind) (size : ℕ) (node : Node) (told : List ℕ)
    → Some node ≡ designated tree area → held_under tree incoming.held unit node ≡ None → None ≡ place_of_choice tree incoming.waiting node → told ≡ no_data_area area
    → (NoData, told, incoming) ≡ receive tree incoming unit area kind size
received_nothing tree incoming unit area kind size node told named none nowhere shown =
    let chosen : chosen_leaf tree incoming.waiting node ≡ None = none_chosen tree incoming.waiting node (chosen_leaf tree incoming.waiting node) refl nowhere in
    let next : next_rest tree incoming unit node ≡ None = rw (none, chosen) refl in
    let given : (NoData, told, incoming) ≡ receive_next tree incoming unit area kind size None = rw shown refl in
    given ∙ (ap (receive_next tree incoming unit area kind size) (sym next) ∙ ap (receive_at tree incoming unit area kind size) named)
