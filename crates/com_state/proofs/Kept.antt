-- What each part of a step keeps.
use Rattle.std.proofs.Common.{◌≡◌, ℕ, ◌+◌, ◌≤◌, zero, suc, Bool, true, false, Some, None, Option, List, [], ◌∷◌, ◌++◌, length, refl, sym, ap, ◌∙◌, inl, inr, arith, append_assoc}
use Rattle.std.specs.Prelude.{◌⊎◌, map, option_map, slice_get, unwrap_or, if◌then◌else◌}
use Rattle.std.specs.List.{enumerate_from}
use Rattle.std.proofs.lemmas.Bool.{cases_Bool}
use Rattle.std.proofs.lemmas.List.{append-nil}
use Rattle.com_msg.specs.Begun.{Begun}
use Rattle.com_msg.specs.declared.rest.Kind.{Kind}
use Rattle.com_msg.specs.declared.sending.Part.{Part}
use Rattle.com_msg.specs.declared.sending.Part.TheVariants as part
use Rattle.com_msg.specs.declared.sending.OutMessage.{OutMessage}
use Rattle.com_cd.specs.InputArea.{in_field}
use Rattle.com_cd.specs.declared.input_area.InField.TheVariants as field
use Rattle.com_tree.specs.declared.tree.Node.{Node}
use Rattle.com_tree.specs.Places.{top_of}
use Rattle.com_events.specs.declared.call.Call.{Call}
use Rattle.com_recv.specs.declared.lists.Waiting.{Waiting}
use Rattle.com_recv.specs.Incoming.{designated, first_on, is_on, chosen_leaf, without_first, held_under}
use Rattle.com_recv.specs.Receiving.{Next, next_waiting}
use Rattle.com_send.specs.declared.destination.Destination.{Destination}
use Rattle.com_send.specs.Outgoing.{DestinationState, Outgoing, drop_unit}
use Rattle.com_send.specs.Found.{Found, destination_with, find_destinations, is_among, at_each}
use Rattle.com_send.specs.Sending.{deliver, serve_part, serve, sent_text, send_found, is_nothing}
use Rattle.com_send.specs.Switching.{switch, is_key_of_each, switch_found}
use Rattle.com_state.specs.State.{State, destinations_of}
use Rattle.com_state.specs.Switches.{is_key, switch_leaves, switch_terminal, switch_input}
use Rattle.com_events.specs.Fronts.{IsPrefixOf}
use Rattle.com_state.specs.Laws.{Keeps, queue_for, enables_output}
use Rattle.com_state.proofs.Frames.{option_cases, SameQueues, same_queues}
use Rattle.com_state.proofs.Aside.{SameInput}
use Rattle.com_state.proofs.Verbs.{next_in, receive_next_in, receive_in, send_in, switch_output_in}

-- a list is a prefix of itself
same_prefix : {X : Type 0} (xs ys : List X) → ys ≡ xs → IsPrefixOf xs ys
same_prefix {X} xs ys e = ([], e ∙ sym (append-nil xs))

prefix_chain : {X : Type 0} (xs ys zs : List X) → IsPrefixOf xs ys → IsPrefixOf ys zs → IsPrefixOf xs zs
prefix_chain {X} xs ys zs h k = (h.0 ++ k.0, k.1 ∙ (ap (λ front. front ++ k.0) h.1 ∙ append_assoc xs h.0 k.0))

-- what is queued for a destination
abbrev queued_in : Outgoing → ℕ → List OutMessage
queued_in outgoing terminal = unwrap_or (option_map (λ (d : DestinationState). d.queued) (slice_get outgoing terminal)) []

-- what is queued for each destination is still queued
abbrev StillQueued : Outgoing → Outgoing → Type 0
StillQueued before after = (terminal : ℕ) → IsPrefixOf (queued_in before terminal) (queued_in after terminal)

same_queued : (before after : Outgoing) → after ≡ before → StillQueued before after
same_queued before after e = λ terminal. same_prefix (queued_in before terminal) (queued_in after terminal) (ap (λ outgoing. queued_in outgoing terminal) e)

pub kept_same : (S : State) (call : Call) (next : State) → SameQueues S next → Keeps S call next
kept_same S call next h = record {
  net = h.net;
  waiting = inr (omega (arith, ap (λ incoming. length incoming.waiting) h.incoming));
  queued = inr (same_queued S.outgoing next.outgoing h.outgoing);
}

no_more : (a b c : ℕ) (P : Type 0) → P ⊎ (b ≤ a) → P ⊎ (c ≤ b) → P ⊎ (c ≤ a)
no_more a b c P (inl p) second = inl p
no_more a b c P (inr first) (inl p) = inl p
no_more a b c P (inr first) (inr second) = inr (omega (arith, first, second))

still_queued : (S mid next : State) (P : Type 0) → P ⊎ ((terminal : ℕ) → IsPrefixOf (queue_for S terminal) (queue_for mid terminal))
    → P ⊎ ((terminal : ℕ) → IsPrefixOf (queue_for mid terminal) (queue_for next terminal)) → P ⊎ ((terminal : ℕ) → IsPrefixOf (queue_for S terminal) (queue_for next terminal))
still_queued S mid next P (inl p) second = inl p
still_queued S mid next P (inr first) (inl p) = inl p
still_queued S mid next P (inr first) (inr second) = inr (λ terminal. prefix_chain (queue_for S terminal) (queue_for mid terminal) (queue_for next terminal) (first terminal) (second terminal))

-- one after another
pub kept_chain : (S : State) (call : Call) (mid next : State) → Keeps S call mid → Keeps mid call next → Keeps S call next
kept_chain S call mid next first second = record {
  net = second.net ∙ first.net;
  waiting = no_more (length S.incoming.waiting) (length mid.incoming.waiting) (length next.incoming.waiting) _ first.waiting second.waiting;
  queued = still_queued S mid next _ first.queued second.queued;
}

-- RECEIVE
fewer : (leaf : ℕ) (waiting : List Waiting) → length (without_first leaf waiting) ≤ length waiting
fewer leaf [] = omega arith
fewer leaf (w ∷ waiting) = elim (cases_Bool (is_on leaf w)) [
  | inl here ↦ rw here (omega arith)
  | inr other ↦ rw other (omega (arith, fewer leaf waiting))
]

-- what a RECEIVE that goes on leaves waiting
abbrev LeavesFewer : State → Option Next → Type 0
LeavesFewer S None = Unit {0}
LeavesFewer S (Some next) = length next.waiting ≤ length S.incoming.waiting

fewer_waiting : (S : State) (node : Node) → LeavesFewer S (next_waiting S.net.tree S.incoming node)
fewer_waiting S node = elim (option_cases (chosen_leaf S.net.tree S.incoming.waiting node)) [
  | inl none ↦ rw (none, next_waiting) tt
  | inr some ↦ elim (option_cases (first_on S.incoming.waiting some.0)) [
    | inl none ↦ rw (some.1, none, next_waiting) tt
    | inr message ↦ rw (some.1, message.1, next_waiting) (fewer some.0 S.incoming.waiting)
  ]
]

fewer_next : (S : State) (unit : ℕ) (node : Node) → LeavesFewer S (next_in S unit node)
fewer_next S unit node = elim (option_cases (held_under S.net.tree S.incoming.held unit node)) [
  | inl none ↦ rw (none, next_in) (fewer_waiting S node)
  | inr some ↦ rw (some.1, next_in) (omega arith)
]

kept_next : (S : State) (unit : ℕ) (area : List ℕ) (kind : Kind) (size : ℕ) (call : Call) (found : Option Next) → LeavesFewer S found
    → Keeps S call (receive_next_in S unit area kind size found).1
kept_next S unit area kind size call None h = kept_same S call S (same_queues S)
kept_next S unit area kind size call (Some next) h = record {
  net = refl;
  waiting = inr h;
  queued = inr (same_queued S.outgoing S.outgoing refl);
}

pub kept_receive : (S : State) (unit : ℕ) (area : List ℕ) (kind : Kind) (size : ℕ) (call : Call) → Keeps S call (receive_in S unit area kind size).1
kept_receive S unit area kind size call = elim (option_cases (designated S.net.tree area)) [
  | inl none ↦ rw (none, receive_in) (kept_same S call S (same_queues S))
  | inr some ↦ rw (some.1, receive_in) (kept_next S unit area kind size call (next_in S unit some.0) (fewer_next S unit some.0))
]

-- SEND

-- a destination is changed where it is named, and otherwise it stays
changed_at : Found → (DestinationState → DestinationState) → ℕ → DestinationState → DestinationState
changed_at found change at state = if is_among found at then change state else state

get_changed : (found : Found) (change : DestinationState → DestinationState) (from i : ℕ) (outgoing : Outgoing)
    → slice_get (map (λ (at, state). if is_among found at then change state else state) (enumerate_from from outgoing)) i ≡ option_map (changed_at found change (from + i)) (slice_get outgoing i)
unfolding changed_at
get_changed found change from i [] = refl
get_changed found change from zero (state ∷ outgoing) = let same : from + 0 ≡ from = omega arith in rw same refl
get_changed found change from (suc i) (state ∷ outgoing) = let same : from + suc i ≡ from + 1 + i = omega arith in rw same (get_changed found change (from + 1) i outgoing)

-- what is queued for a destination that stays, or is changed
queued_changed : (found : Found) (change : DestinationState → DestinationState) → ((state : DestinationState) → IsPrefixOf state.queued (change state).queued)
    → (at : ℕ) (o : Option DestinationState) → IsPrefixOf (unwrap_or (option_map (λ (d : DestinationState). d.queued) o) []) (unwrap_or (option_map (λ (d : DestinationState). d.queued) (option_map (changed_at found change at) o)) [])
unfolding changed_at
queued_changed found change keeps at None = same_prefix [] [] refl
queued_changed found change keeps at (Some state) = elim (cases_Bool (is_among found at)) [
  | inl named ↦ rw named (keeps state)
  | inr other ↦ rw other (same_prefix state.queued state.queued refl)
]

still_at_each : (found : Found) (change : DestinationState → DestinationState) (outgoing : Outgoing) → ((state : DestinationState) → IsPrefixOf state.queued (change state).queued) → StillQueued outgoing (at_each found change outgoing)
still_at_each found change outgoing keeps = λ terminal. rw (get_changed found change 0 terminal outgoing) (queued_changed found change keeps (0 + terminal) (slice_get outgoing terminal))

queued_deliver : (message : OutMessage) (state : DestinationState) → IsPrefixOf state.queued (deliver message state).queued
queued_deliver message state = elim (cases_Bool state.on) [
  | inl on ↦ rw (on, deliver) (same_prefix state.queued state.queued refl)
  | inr off ↦ rw (off, deliver) (message ∷ [], refl)
]

queued_part : (unit : ℕ) (p : Part) (begun : Begun) (state : DestinationState) → IsPrefixOf state.queued (serve_part unit p begun state).queued
queued_part unit part.Portion begun state = same_prefix state.queued state.queued refl
queued_part unit (part.Esi advance) begun state = same_prefix state.queued state.queued refl
queued_part unit (part.Emi advance) begun state = queued_deliver _ _
queued_part unit (part.Egi advance) begun state = queued_deliver _ _

queued_serve : (unit : ℕ) (p : Part) (text : List ℕ) (state : DestinationState) → IsPrefixOf state.queued (serve unit p text state).queued
queued_serve unit p text state = elim (option_cases (slice_get state.begun unit)) [
  | inl none ↦ rw (none, serve) (same_prefix state.queued state.queued refl)
  | inr some ↦ rw (some.1, serve) (queued_part unit p _ state)
]

queued_found : (outgoing : Outgoing) (unit : ℕ) (area : List ℕ) (p : Part) (found : Option Found) (text : Option (List ℕ)) → StillQueued outgoing (send_found outgoing unit area p found text).1
queued_found outgoing unit area p None text = same_queued outgoing outgoing refl
queued_found outgoing unit area p (Some found) None = same_queued outgoing outgoing refl
queued_found outgoing unit area p (Some found) (Some text) = elim (cases_Bool (is_nothing p text)) [
  | inl nothing ↦ rw (nothing, send_found) (same_queued outgoing outgoing refl)
  | inr some ↦ rw (some, send_found) (still_at_each found (serve unit p text) outgoing (queued_serve unit p text))
]

pub kept_send : (S : State) (unit : ℕ) (area : List ℕ) (p : Part) (item : Option (List ℕ)) (call : Call) → Keeps S call (send_in S unit area p item).1
kept_send S unit area p item call = record {
  net = refl;
  waiting = inr (omega arith);
  queued = inr (queued_found S.outgoing unit area p (find_destinations (destinations_of S.net) area) (sent_text area item));
}

-- ENABLE and DISABLE
pub unchanged_queues : (S next : State) (call : Call) → next.net ≡ S.net → length next.incoming.waiting ≡ length S.incoming.waiting → StillQueued S.outgoing next.outgoing → Keeps S call next
unchanged_queues S next call net waiting queued = record {
  net = net;
  waiting = inr (omega (arith, waiting));
  queued = inr queued;
}

pub kept_leaf_flags : (S next : State) (call : Call) → SameInput S next → next.outgoing ≡ S.outgoing → Keeps S call next
kept_leaf_flags S next call same outgoing = kept_same S call next record { net = same.net; incoming = same.incoming; outgoing = outgoing }

queued_switched : (destinations : List Destination) (outgoing : Outgoing) (area key : List ℕ) (found : Option Found) → StillQueued outgoing (switch_found destinations outgoing false area key found).1
queued_switched destinations outgoing area key None = same_queued outgoing outgoing refl
queued_switched destinations outgoing area key (Some found) = elim (cases_Bool (is_key_of_each found key destinations)) [
  | inl right ↦ rw (right, switch_found) (still_at_each found (switch false) outgoing (λ state. same_prefix state.queued state.queued refl))
  | inr wrong ↦ rw (wrong, switch_found) (same_queued outgoing outgoing refl)
]

pub kept_switch_output : (S : State) (on : Bool) (area key : List ℕ) (call : Call) → enables_output call ≡ on → Keeps S call (switch_output_in S on area key).1
kept_switch_output S true area key call h = record { net = refl; waiting = inr (omega arith); queued = inl h }
kept_switch_output S false area key call h = record {
  net = refl;
  waiting = inr (omega arith);
  queued = inr (queued_switched (destinations_of S.net) S.outgoing area key (find_destinations (destinations_of S.net) area));
}

-- a unit that stops leaves what is queued
pub still_dropped : (unit : ℕ) (outgoing : Outgoing) → StillQueued outgoing (drop_unit unit outgoing)
still_dropped unit outgoing = λ terminal. same_prefix (queued_in outgoing terminal) (queued_in (drop_unit unit outgoing) terminal) (same_queue outgoing terminal)
  where
    same_queue : (outgoing : Outgoing) (terminal : ℕ) → queued_in (drop_unit unit outgoing) terminal ≡ queued_in outgoing terminal
    same_queue [] terminal = refl
    same_queue (state ∷ outgoing) zero = refl
    same_queue (state ∷ outgoing) (suc terminal) = same_queue outgoing terminal

-- ENABLE and DISABLE INPUT leave what is outgoing
leaves_outgoing : (S : State) (on : Bool) (area key : List ℕ) (node : Node) → (switch_leaves S on area key node).1.outgoing ≡ S.outgoing
leaves_outgoing S on area key node = elim (cases_Bool (is_key key (slice_get S.net.queue_passwords (top_of S.net.tree node)))) [
  | inl right ↦ rw (right, switch_leaves) refl
  | inr wrong ↦ rw (wrong, switch_leaves) refl
]

terminal_outgoing : (S : State) (on : Bool) (area key : List ℕ) (terminal : ℕ) → (switch_terminal S on area key terminal).1.outgoing ≡ S.outgoing
terminal_outgoing S on area key terminal = elim (cases_Bool (is_key key (option_map (λ t. t.password) (slice_get S.net.terminals terminal)))) [
  | inl right ↦ rw (right, switch_terminal) refl
  | inr wrong ↦ rw (wrong, switch_terminal) refl
]

pub switched_outgoing : (S : State) (on terminal : Bool) (area key : List ℕ) → (switch_input S on terminal area key).1.outgoing ≡ S.outgoing
switched_outgoing S on false area key = elim (option_cases (designated S.net.tree area)) [
  | inl none ↦ rw (none, switch_input) refl
  | inr some ↦ rw (some.1, switch_input) (leaves_outgoing S on area key some.0)
]
switched_outgoing S on true area key = elim (option_cases (destination_with (destinations_of S.net) (in_field field.Source area))) [
  | inl none ↦ rw (none, switch_input) refl
  | inr some ↦ rw (some.1, switch_input) (terminal_outgoing S on area key some.0)
]
