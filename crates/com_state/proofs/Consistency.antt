-- What holds of every state that a legal history leaves.
use Rattle.std.proofs.Common.{◌≡◌, ℕ, ◌+◌, ◌≤◌, zero, suc, true, false, not, List, [], ◌∷◌, Some, None, Option, length, refl, sym, ap, subst, ◌∙◌, inl, inr, arith, eq-eqb}
use Rattle.std.specs.Prelude.{◌==◌, slice_get, slice_set, replicate}
use Rattle.std.specs.List.{All, AllPairs}
use Rattle.std.proofs.lemmas.Bool.{cases_Bool, and_from, true≢false}
use Rattle.std.proofs.lemmas.List.{length-replicate, length-map}
use Rattle.std.proofs.lemmas.List.Elements.{All-filter, All-cons, All-push, All-head, All-tail}
use Rattle.std.proofs.lemmas.List.Kept.{AllPairs-filter, AllPairs-cons}
use Rattle.std.proofs.lemmas.List.Quantifiers.{all_pairs_push}
use Rattle.std.proofs.Math.ListN.{length-set}
use Rattle.std.proofs.lemmas.Option.{none-some, same_Some}
use Rattle.com_msg.specs.declared.message.Message.{Message}
use Rattle.com_msg.specs.Portion.{take_portion}
use Rattle.com_tree.specs.declared.tree.Node.{Node}
use Rattle.com_net.specs.declared.net.Net.{Net}
use Rattle.com_net.specs.Network.{IsNet}
use Rattle.com_events.specs.declared.call.Party.{Party}
use Rattle.com_events.specs.declared.call.Party.TheVariants as party
use Rattle.com_events.specs.Calls.{IsWellFormed}
use Rattle.com_events.specs.declared.call.Call.{Call}
use Rattle.com_events.specs.declared.reply.Reply.{Reply}
use Rattle.com_events.specs.declared.entry.Entry.{Entry}
use Rattle.com_recv.specs.declared.lists.Waiting.{Waiting}
use Rattle.com_recv.specs.declared.lists.Held.{Held}
use Rattle.com_recv.specs.Incoming.{IsEarlier, is_on, first_on, chosen_leaf, without_first, is_held_on, without_held, with_held, held_under}
use Rattle.com_recv.specs.Receiving.{Next, next_waiting}
use Rattle.com_send.specs.Outgoing.{AreFor}
use Rattle.com_send.proofs.Keeping.{are_for_opening}
use Rattle.com_state.specs.declared.parties.TheConstants.{MAX_VERBS, MAX_ARRIVALS}
use Rattle.com_state.specs.declared.parties.UnitState.{UnitState}
use Rattle.com_state.specs.declared.parties.TerminalState.{TerminalState}
use Rattle.com_state.specs.State.{State, destinations_of, opening, opening_unit, opening_terminal}
use Rattle.com_state.specs.Steps.{step}
use Rattle.com_state.specs.Histories.{LeadsTo}
use Rattle.com_state.specs.Wholeness.{Arrival, HandedOut}
use Rattle.com_state.specs.Reached.{IsConsistent, AreApart}
use Rattle.com_state.proofs.Frames.{option_cases}
use Rattle.com_state.proofs.StepCases.{step_of_unit, step_of_terminal}
use Rattle.com_state.proofs.Verbs.{next_in}
use Rattle.com_state.proofs.Changes.{Change, SameStore, Comes, Stops, Gives, quiet, comes, stops, gives}
use Rattle.com_state.proofs.Changing.{changed}
use Rattle.com_state.proofs.Owned.{at_place, unit_done, terminal_done}
use Rattle.com_state.proofs.Flags.{SameSizes, sizes_of_unit, sizes_of_terminal}

-- what is held
held_apart : (unit leaf : ℕ) (held : List Held) → All (λ (h : Held). is_held_on unit leaf h ≡ false) (without_held unit leaf held)
held_apart unit leaf [] = λ k d within. absurd (omega (arith, within))
held_apart unit leaf (h ∷ held) = elim (cases_Bool (is_held_on unit leaf h)) [
  | inl on ↦ rw on (held_apart unit leaf held)
  | inr off ↦ rw off (All-cons (λ (h : Held). is_held_on unit leaf h ≡ false) h (without_held unit leaf held) off (held_apart unit leaf held))
]

-- the new rest is apart from those that are not from its leaf by its unit
new_apart : (unit leaf : ℕ) (rest : Message) (held : List Held) → All (λ (h : Held). is_held_on unit leaf h ≡ false) held → All (AreApart (record { unit = unit; leaf = record { number = leaf }; rest = rest })) held
new_apart unit leaf rest held off = λ k d within of_unit on.
    let fails = off k d within in
    true≢false (sym (and_from _ _ (eq_true of_unit) (eq_true on)) ∙ fails)
  where
    eq_true : {a b : ℕ} → a ≡ b → (b == a) ≡ true
    eq_true {a} {b} e = eq-eqb b a (sym e)

apart_with : (unit leaf : ℕ) (rest : Message) (pieces : List (List ℕ)) (held : List Held) → AllPairs AreApart held → All (λ (h : Held). is_held_on unit leaf h ≡ false) held → AllPairs AreApart (with_held unit leaf rest pieces held)
apart_with unit leaf rest [] held apart off = apart
apart_with unit leaf rest (piece ∷ pieces) held apart off =
    AllPairs-cons AreApart (record { unit = unit; leaf = record { number = leaf }; rest = rest }) held (new_apart unit leaf rest held off) apart

unspent_with : (unit leaf : ℕ) (rest : Message) (pieces : List (List ℕ)) (held : List Held) → rest.segments ≡ pieces → All (λ (h : Held). 1 ≤ length h.rest.segments) held
    → All (λ (h : Held). 1 ≤ length h.rest.segments) (with_held unit leaf rest pieces held)
unspent_with unit leaf rest [] held e all = all
unspent_with unit leaf rest (piece ∷ pieces) held e all =
    All-cons (λ (h : Held). 1 ≤ length h.rest.segments) (record { unit = unit; leaf = record { number = leaf }; rest = rest }) held (omega (arith, ap length e)) all

-- what waits, without the first on a leaf
pub sub_all : (P : Waiting → Type 0) (leaf : ℕ) (waiting : List Waiting) → All P waiting → All P (without_first leaf waiting)
sub_all P leaf [] all = all
sub_all P leaf (w ∷ waiting) all =
    let behind : All P waiting = λ k d within. all (suc k) d (omega (arith, within)) in
    elim (cases_Bool (is_on leaf w)) [
      | inl here ↦ rw here behind
      | inr other ↦ rw other (All-cons P w (without_first leaf waiting) (all 0 w (omega arith)) (sub_all P leaf waiting behind))
    ]

sub_ordered : (leaf : ℕ) (waiting : List Waiting) → AllPairs IsEarlier waiting → AllPairs IsEarlier (without_first leaf waiting)
sub_ordered leaf [] ordered = ordered
sub_ordered leaf (w ∷ waiting) ordered =
    let behind : AllPairs IsEarlier waiting = λ i j d less within. ordered (suc i) (suc j) d (omega (arith, less)) (omega (arith, within)) in
    let first : All (IsEarlier w) waiting = λ k d within. ordered 0 (suc k) d (omega arith) (omega (arith, within)) in
    elim (cases_Bool (is_on leaf w)) [
      | inl here ↦ rw here behind
      | inr other ↦ rw other (AllPairs-cons IsEarlier w (without_first leaf waiting) (sub_all (IsEarlier w) leaf waiting first) (sub_ordered leaf waiting behind))
    ]

-- what waits in order, with numbers of messages that have arrived
record IsOrdered (S : State) (waiting : List Waiting) : Type 0 where
  in_order : AllPairs IsEarlier waiting
  numbered : All (λ (w : Waiting). w.message.arrival ≤ S.arrivals) waiting

-- what waits when a RECEIVE goes on
abbrev StaysOrdered : State → Option Next → Type 0
StaysOrdered S None = Unit {0}
StaysOrdered S (Some next) = IsOrdered S next.waiting

ordered_waiting : (S : State) (node : Node) → IsOrdered S S.incoming.waiting → StaysOrdered S (next_waiting S.net.tree S.incoming node)
ordered_waiting S node ordered = elim (option_cases (chosen_leaf S.net.tree S.incoming.waiting node)) [
  | inl none ↦ rw (none, next_waiting) tt
  | inr some ↦ elim (option_cases (first_on S.incoming.waiting some.0)) [
    | inl none ↦ rw (some.1, none, next_waiting) tt
    | inr message ↦ rw (some.1, message.1, next_waiting) record {
      in_order = sub_ordered some.0 S.incoming.waiting ordered.in_order;
      numbered = sub_all (λ (w : Waiting). w.message.arrival ≤ S.arrivals) some.0 S.incoming.waiting ordered.numbered;
    }
  ]
]

ordered_next : (S : State) (unit : ℕ) (node : Node) → IsOrdered S S.incoming.waiting → StaysOrdered S (next_in S unit node)
ordered_next S unit node ordered = elim (option_cases (held_under S.net.tree S.incoming.held unit node)) [
  | inl none ↦ rw (none, next_in) (ordered_waiting S node ordered)
  | inr some ↦ rw (some.1, next_in) ordered
]

-- what is incoming, in a state
pub record IsIncomingSound (S : State) : Type 0 where
  pub apart : AllPairs AreApart S.incoming.held
  pub unspent : All (λ (h : Held). 1 ≤ length h.rest.segments) S.incoming.held
  pub in_order : AllPairs IsEarlier S.incoming.waiting
  pub numbered : All (λ (w : Waiting). w.message.arrival ≤ S.arrivals) S.incoming.waiting

sound_quiet : (S next : State) → SameStore S next → IsIncomingSound S → IsIncomingSound next
sound_quiet S next same sound = record {
  apart = rw same.incoming sound.apart;
  unspent = rw same.incoming sound.unspent;
  in_order = rw same.incoming sound.in_order;
  numbered = rw (same.incoming, same.arrivals) sound.numbered;
}

sound_comes : (S next : State) (arrived : List Arrival) → Comes S next arrived → IsIncomingSound S → IsIncomingSound next
sound_comes S next arrived come sound = record {
  apart = rw come.held sound.apart;
  unspent = rw come.held sound.unspent;
  in_order = rw come.waiting (all_pairs_push IsEarlier S.incoming.waiting come.here sound.in_order (λ k d within. let low = sound.numbered k d within in omega (arith, low, come.number)));
  numbered = rw (come.waiting, come.arrivals)
      (All-push (λ (w : Waiting). w.message.arrival ≤ S.arrivals + 1) S.incoming.waiting come.here (λ k d within. let low = sound.numbered k d within in omega (arith, low)) (omega (arith, come.number)));
}

sound_stops : (S next : State) → Stops S next → IsIncomingSound S → IsIncomingSound next
sound_stops S next stop sound = record {
  apart = rw stop.held (AllPairs-filter AreApart (λ (h : Held). not (h.unit == stop.unit)) S.incoming.held sound.apart);
  unspent = rw stop.held (All-filter (λ (h : Held). not (h.unit == stop.unit)) (λ (h : Held). 1 ≤ length h.rest.segments) S.incoming.held sound.unspent);
  in_order = rw stop.waiting sound.in_order;
  numbered = rw (stop.waiting, stop.arrivals) sound.numbered;
}

sound_gives : (S next : State) (handed : Option HandedOut) → Gives S next handed → IsIncomingSound S → IsIncomingSound next
sound_gives S next handed give sound =
    let unit = give.unit in
    let leaf = give.found.leaf in
    let rest = (take_portion give.kind give.size give.found.rest).1 in
    let others = without_held unit leaf S.incoming.held in
    let ordered : IsOrdered S give.found.waiting = subst (StaysOrdered S) give.is_next (ordered_next S unit give.node record { in_order = sound.in_order; numbered = sound.numbered }) in
    record {
      apart = rw give.held (apart_with unit leaf rest rest.segments others
          (AllPairs-filter AreApart (λ (h : Held). not (is_held_on unit leaf h)) S.incoming.held sound.apart) (held_apart unit leaf S.incoming.held));
      unspent = rw give.held (unspent_with unit leaf rest rest.segments others refl
          (All-filter (λ (h : Held). not (is_held_on unit leaf h)) (λ (h : Held). 1 ≤ length h.rest.segments) S.incoming.held sound.unspent));
      in_order = rw give.waiting ordered.in_order;
      numbered = rw (give.waiting, give.arrivals) ordered.numbered;
    }

sound_change : (S next : State) (arrived : List Arrival) (handed : Option HandedOut) → Change S next arrived handed → IsIncomingSound S → IsIncomingSound next
sound_change S next arrived handed (quiet none no_portion same) sound = sound_quiet S next same sound
sound_change S next arrived handed (comes come no_portion) sound = sound_comes S next arrived come sound
sound_change S next arrived handed (stops none no_portion stop) sound = sound_stops S next stop sound
sound_change S next arrived handed (gives none give) sound = sound_gives S next handed give sound

-- each element still holds, with one changed
pub all_at : {X : Type 0} (P : X → Type 0) (xs : List X) (i : ℕ) (f : X → X) → All P xs → ((x : X) → slice_get xs i ≡ Some x → P x → P (f x)) → All P (at_place xs i f)
all_at {X} P xs i f all keeps = elim (option_cases (slice_get xs i)) [
  | inl none ↦ let same : at_place xs i f ≡ xs = rw (none, at_place) refl in rw same all
  | inr some ↦
      let set : at_place xs i f ≡ slice_set xs i (f some.0) = rw (some.1, at_place) refl in
      rw set (all_set P xs i (f some.0) all (keeps some.0 some.1 (all_there P xs i some.0 all some.1)))
]
  where
    all_there : (P : X → Type 0) (xs : List X) (i : ℕ) (x : X) → All P xs → slice_get xs i ≡ Some x → P x
    all_there P [] i x all got = absurd (none-some x got)
    all_there P (y ∷ xs) zero x all got = subst P (same_Some y x got) (all 0 y (omega arith))
    all_there P (y ∷ xs) (suc i) x all got = all_there P xs i x (λ k d within. all (suc k) d (omega (arith, within))) got

    all_set : (P : X → Type 0) (xs : List X) (i : ℕ) (x : X) → All P xs → P x → All P (slice_set xs i x)
    all_set P [] i x all one = all
    all_set P (y ∷ xs) zero x all one = All-cons P x xs one (λ k d within. all (suc k) d (omega (arith, within)))
    all_set P (y ∷ xs) (suc i) x all one = All-cons P y (slice_set xs i x) (all 0 y (omega arith)) (all_set P xs i x (λ k d within. all (suc k) d (omega (arith, within))) one)

length-at_place : {X : Type 0} (xs : List X) (i : ℕ) (f : X → X) → length (at_place xs i f) ≡ length xs
length-at_place {X} xs i f = elim (option_cases (slice_get xs i)) [
  | inl none ↦ let same : at_place xs i f ≡ xs = rw (none, at_place) refl in ap length same
  | inr some ↦
      let set : at_place xs i f ≡ slice_set xs i (f some.0) = rw (some.1, at_place) refl in
      ap length set ∙ length-set xs i (f some.0)
]

-- what a step keeps consistent, besides what is incoming
consistent_from : (S next : State) → next.net ≡ S.net → SameSizes S next → length next.units ≡ length S.units → length next.terminals ≡ length S.terminals
    → All (λ (u : UnitState). u.verbs ≤ MAX_VERBS) next.units → All (λ (t : TerminalState). t.arrivals ≤ MAX_ARRIVALS) next.terminals → IsIncomingSound next → IsConsistent S → IsConsistent next
consistent_from S next net sizes units terminals verbs arrivals incoming sound = record {
  leaves = sizes.leaves ∙ (sound.leaves ∙ ap (λ (n : Net). length n.leaf_on) (sym net));
  inputs = sizes.inputs ∙ (sound.inputs ∙ ap (λ (n : Net). length n.terminals) (sym net));
  outputs = subst (λ (n : Net). AreFor (destinations_of n) (length n.units) next.outgoing) (sym net) (sizes.outputs (destinations_of S.net) (length S.net.units) sound.outputs);
  units = units ∙ (sound.units ∙ ap (λ (n : Net). length n.units) (sym net));
  terminals = terminals ∙ (sound.terminals ∙ ap (λ (n : Net). length n.terminals) (sym net));
  verbs = verbs;
  arrivals = arrivals;
  apart = incoming.apart;
  unspent = incoming.unspent;
  in_order = incoming.in_order;
  numbered = incoming.numbered;
}

consistent_step : (net : Net) (S next : State) (who : Party) (call : Call) (reply : Reply) → IsNet net → S.net ≡ net → IsWellFormed call → step S who call ≡ Some (reply, next) → IsConsistent S → IsConsistent next
consistent_step net S next (party.Unit name) call reply is same form stepped sound =
    let its = step_of_unit S name call reply next stepped in
    let made = unit_done S its.0 call reply next its.2 in
    let arrived = changed S (party.Unit name) call reply next stepped in
    let incoming = sound_change S next _ _ arrived.change record { apart = sound.apart; unspent = sound.unspent; in_order = sound.in_order; numbered = sound.numbered } in
    let sizes = sizes_of_unit net S its.0 call reply next is same sound.leaves form its.2 in
    consistent_from S next made.net sizes (ap length made.units ∙ length-at_place S.units its.0 _) (ap length made.terminals)
    (rw made.units (all_at (λ (u : UnitState). u.verbs ≤ MAX_VERBS) S.units its.0 _ sound.verbs made.counted)) (rw made.terminals sound.arrivals) incoming sound
consistent_step net S next (party.Terminal name) call reply is same form stepped sound =
    let its = step_of_terminal S name call reply next stepped in
    let made = terminal_done S its.0 name call reply next its.2 in
    let arrived = changed S (party.Terminal name) call reply next stepped in
    let incoming = sound_change S next _ _ arrived.change record { apart = sound.apart; unspent = sound.unspent; in_order = sound.in_order; numbered = sound.numbered } in
    let sizes = sizes_of_terminal S its.0 name call reply next its.2 in
    consistent_from S next made.net sizes (ap length made.units) (ap length made.terminals ∙ length-at_place S.terminals its.0 _)
    (rw made.units sound.verbs) (rw made.terminals (all_at (λ (t : TerminalState). t.arrivals ≤ MAX_ARRIVALS) S.terminals its.0 _ sound.arrivals made.counted)) incoming sound

pub all_replicated : {X : Type 0} (P : X → Type 0) (n : ℕ) (x : X) → P x → All P (replicate n x)
all_replicated {X} P zero x one = λ k d within. absurd (omega (arith, within))
all_replicated {X} P (suc n) x one = All-cons P x (replicate n x) one (all_replicated P n x one)

consistent_opening : (net : Net) → IsConsistent (opening net)
consistent_opening net = record {
  leaves = refl;
  inputs = length-map net.terminals _;
  outputs = are_for_opening (destinations_of net) (length net.units);
  units = length-replicate (length net.units) opening_unit;
  terminals = length-replicate (length net.terminals) opening_terminal;
  verbs = all_replicated (λ (u : UnitState). u.verbs ≤ MAX_VERBS) (length net.units) opening_unit (omega arith);
  arrivals = all_replicated (λ (t : TerminalState). t.arrivals ≤ MAX_ARRIVALS) (length net.terminals) opening_terminal (omega arith);
  apart = λ i j d less within. absurd (omega (arith, within));
  unspent = λ k d within. absurd (omega (arith, within));
  in_order = λ i j d less within. absurd (omega (arith, within));
  numbered = λ k d within. absurd (omega (arith, within));
}

-- along a history; the network stays
consistent_after : (net : Net) (S : State) (history : List Entry) (last : State) → IsNet net → S.net ≡ net → All (λ entry. IsWellFormed entry.call) history → LeadsTo S history last → IsConsistent S → IsConsistent last
consistent_after net S [] last is same forms e sound = subst IsConsistent (sym e) sound
consistent_after net S (entry ∷ entries) last is same forms e sound =
    let arrived = changed S entry.party entry.call entry.reply e.0 e.1 in
    consistent_after net e.0 entries last is (arrived.net ∙ same) (All-tail (λ (made : Entry). IsWellFormed made.call) entry entries forms) e.2
    (consistent_step net S e.0 entry.party entry.call entry.reply is same (All-head (λ (made : Entry). IsWellFormed made.call) entry entries forms) e.1 sound)

-- every state that a legal history leaves
pub consistent : (net : Net) (history : List Entry) (last : State) → IsNet net → All (λ entry. IsWellFormed entry.call) history → LeadsTo (opening net) history last → IsConsistent last
consistent net history last is forms leads = consistent_after net (opening net) history last is refl forms leads (consistent_opening net)
