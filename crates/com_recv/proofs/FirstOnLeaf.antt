-- A RECEIVE of the first message on the leaf that a node chooses.
use Rattle.std.proofs.Common.{◌≡◌, ℕ, suc, ◌<◌, ◌≤◌, Bool, true, false, List, [], ◌∷◌, ◌++◌, length, Some, None, refl, sym, ap, ◌∙◌, arith, inl, inr}
use Rattle.std.specs.Prelude.{Option, slice_get, option_map, is_some, ◌==◌}
use Rattle.std.specs.List.{All, AllPairs, find, position_or_len, remove}
use Rattle.std.proofs.lemmas.Bool.{cases_Bool, false≢true}
use Rattle.std.proofs.lemmas.List.Elements.{All-push}
use Rattle.std.proofs.lemmas.List.Quantifiers.{all_pairs_push, all_pairs_remove}
use Rattle.std.proofs.lemmas.Option.{none-some, same_Some}
use Rattle.com_msg.specs.declared.message.Message.{Message}
use Rattle.com_msg.specs.declared.rest.Kind.{Kind}
use Rattle.com_tree.specs.declared.tree.TreeRow.{TreeRow}
use Rattle.com_tree.specs.declared.tree.Node.{Node}
use Rattle.com_tree.specs.declared.tree.Leaf.{Leaf}
use Rattle.com_tree.specs.Written.{leaf_count}
use Rattle.com_recv.specs.declared.lists.Waiting.{Waiting}
use Rattle.com_recv.specs.declared.lists.Held.{Held}
use Rattle.com_recv.specs.declared.queues.Taken.TheVariants.{Given, NoData}
use Rattle.com_recv.specs.declared.giving.Request.{Request}
use Rattle.com_recv.specs.Areas.{no_data_area}
use Rattle.com_recv.specs.Giving.{Gives}
use Rattle.com_recv.specs.Incoming.{Incoming, IsEarlier, IsSound, IsTreeOf, is_on, first_on, chosen_leaf, without_first, held_under, designated}
use Rattle.com_recv.specs.Receiving.{Next, next_rest, give, receive_next, receive_at, receive}
use Rattle.com_recv.proofs.Changing.{place_within}
use Rattle.com_recv.proofs.Handing.{removed_all, removed_first}
use Rattle.com_recv.proofs.Receiving.{chosen_has}

-- a message is added
pub sound_more : (incoming : Incoming) (w : Waiting) (waiting : List Waiting) → waiting ≡ incoming.waiting ++ w ∷ [] → 1 ≤ length w.message.segments → All (λ v. v.message.arrival < w.message.arrival) incoming.waiting → IsSound incoming
    → IsSound (record { waiting = waiting; held = incoming.held })
sound_more incoming w waiting is some later sound = record {
  waiting = rw is (All-push (λ (v : Waiting). 1 ≤ length v.message.segments) incoming.waiting w sound.waiting some);
  held = sound.held;
  in_order = rw is (all_pairs_push IsEarlier incoming.waiting w sound.in_order later);
}

pub tree_more : (tree : List TreeRow) (incoming : Incoming) (w : Waiting) (waiting : List Waiting) → waiting ≡ incoming.waiting ++ w ∷ [] → w.leaf.number < leaf_count tree → IsTreeOf tree incoming → IsTreeOf tree (record { waiting = waiting; held = incoming.held })
tree_more tree incoming w waiting is within on = record {
  written = on.written;
  waiting = rw is (All-push (λ (v : Waiting). v.leaf.number < leaf_count tree) incoming.waiting w on.waiting within);
  held = on.held;
}

-- the first on a leaf is taken
pub sound_less : (incoming : Incoming) (leaf : ℕ) (waiting : List Waiting) → waiting ≡ without_first leaf incoming.waiting → is_some (first_on incoming.waiting leaf) ≡ true → IsSound incoming → IsSound (record incoming { waiting = waiting })
sound_less incoming leaf waiting is some sound =
    let within = place_within incoming.waiting leaf some in
    let at = position_or_len (is_on leaf) incoming.waiting in
    let removed : waiting ≡ remove incoming.waiting at = is ∙ sym (removed_first leaf incoming.waiting within) in
    record {
      waiting = rw removed (removed_all (λ (w : Waiting). 1 ≤ length w.message.segments) incoming.waiting at sound.waiting);
      held = sound.held;
      in_order = rw removed (all_pairs_remove IsEarlier incoming.waiting at within sound.in_order);
    }

pub tree_less : (tree : List TreeRow) (incoming : Incoming) (leaf : ℕ) (waiting : List Waiting) → waiting ≡ without_first leaf incoming.waiting → is_some (first_on incoming.waiting leaf) ≡ true → IsTreeOf tree incoming → IsTreeOf tree (record incoming { waiting = waiting })
tree_less tree incoming leaf waiting is some on =
    let within = place_within incoming.waiting leaf some in
    let at = position_or_len (is_on leaf) incoming.waiting in
    let removed : waiting ≡ remove incoming.waiting at = is ∙ sym (removed_first leaf incoming.waiting within) in
    record {
      written = on.written;
      waiting = rw removed (removed_all (λ (w : Waiting). w.leaf.number < leaf_count tree) incoming.waiting at on.waiting);
      held = on.held;
    }

some_is : (o : Option Message) → is_some o ≡ true → (m : Message) × (o ≡ Some m)
some_is None some = absurd (false≢true some)
some_is (Some m) some = (m, refl)

has_piece : (waiting : List Waiting) (leaf : ℕ) (m : Message) → All (λ w. 1 ≤ length w.message.segments) waiting → first_on waiting leaf ≡ Some m → 1 ≤ length m.segments
has_piece [] leaf m all is = absurd (none-some m is)
has_piece (w ∷ waiting) leaf m all is = elim (cases_Bool (is_on leaf w)) [
  | inl here ↦
      let first : w.message ≡ m = same_Some w.message m (rw here at is) in
      let some : 1 ≤ length w.message.segments = all 0 w (omega arith) in
      rw first at some
  | inr other ↦ has_piece waiting leaf m (λ k d within. all (suc k) d (omega (arith, within))) (rw other at is)
]

-- the message that a node chooses
pub chosen_message : (tree : List TreeRow) (incoming : Incoming) (node : Node) (leaf : ℕ) → IsSound incoming → chosen_leaf tree incoming.waiting node ≡ Some leaf
    → (m : Message) × (first_on incoming.waiting leaf ≡ Some m) × (1 ≤ length m.segments)
chosen_message tree incoming node leaf sound chosen =
    let m = some_is (first_on incoming.waiting leaf) (chosen_has tree incoming.waiting node leaf chosen) in
    (m.0, m.1, has_piece incoming.waiting leaf m.0 sound.waiting m.1)

pub leaf_chosen : (found : Option Leaf) (leaf : Leaf) (chosen : Option ℕ) → option_map (λ leaf. leaf.number) found ≡ chosen → found ≡ Some leaf → chosen ≡ Some leaf.number
leaf_chosen found leaf chosen is some = sym is ∙ ap (option_map (λ leaf. leaf.number)) some

pub none_chosen : (found : Option Leaf) (chosen : Option ℕ) → option_map (λ leaf. leaf.number) found ≡ chosen → found ≡ None → chosen ≡ None
none_chosen found chosen is none = sym is ∙ ap (option_map (λ leaf. leaf.number)) none

-- what is given of the message that the node chooses is what RECEIVE gives where the unit holds
-- nothing
pub received_first : (tree : List TreeRow) (incoming : Incoming) (request : Request) (area : List ℕ) (node : Node) (leaf : ℕ) (m : Message) (told : List ℕ) (left : List Held) (waiting : List Waiting) (text : List ℕ)
    → Some node ≡ designated tree area → held_under tree incoming.held request.unit node ≡ None → chosen_leaf tree incoming.waiting node ≡ Some leaf → first_on incoming.waiting leaf ≡ Some m
    → Gives tree request leaf m incoming.held area told left text → waiting ≡ without_first leaf incoming.waiting
    → (Given text, told, record { waiting = waiting; held = left }) ≡ receive tree incoming request.unit area request.kind request.size
received_first tree incoming request area node leaf m told left waiting text named none chosen first gives others =
    let found : Next = record { leaf = leaf; rest = m; waiting = without_first leaf incoming.waiting } in
    let next : next_rest tree incoming request.unit node ≡ Some found = rw (none, chosen, first) refl in
    let given : (Given text, told, record { waiting = waiting; held = left }) ≡ give tree incoming request.unit area request.kind request.size found = rw (gives.given, gives.shown, gives.kept, others) refl in
    given ∙ (ap (receive_next tree incoming request.unit area request.kind request.size) (sym next) ∙ ap (receive_at tree incoming request.unit area request.kind request.size) named)

-- nothing is given where nothing is held and nothing waits
pub received_none : (tree : List TreeRow) (incoming : Incoming) (unit : ℕ) (area : List ℕ) (kind : Kind) (size : ℕ) (node : Node) (told : List ℕ)
    → Some node ≡ designated tree area → held_under tree incoming.held unit node ≡ None → chosen_leaf tree incoming.waiting node ≡ None → told ≡ no_data_area area
    → (NoData, told, incoming) ≡ receive tree incoming unit area kind size
received_none tree incoming unit area kind size node told named none chosen shown =
    let next : next_rest tree incoming unit node ≡ None = rw (none, chosen) refl in
    let given : (NoData, told, incoming) ≡ receive_next tree incoming unit area kind size None = rw shown refl in
    given ∙ (ap (receive_next tree incoming unit area kind size) (sym next) ∙ ap (receive_at tree incoming unit area kind size) named)
