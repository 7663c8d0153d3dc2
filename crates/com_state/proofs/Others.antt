-- What a RECEIVE of one unit leaves to the others, and what a stop leaves of a unit.
use Rattle.std.proofs.Common.{◌≡◌, ◌≢◌, ℕ, Bool, true, false, not, ◌&&◌, zero, suc, Some, None, Option, List, [], ◌∷◌, refl, sym, ap, ◌∙◌, inl, inr, subst}
use Rattle.std.specs.Prelude.{◌==◌, ◌||◌, is_none, slice_get, slice_set}
use Rattle.std.specs.List.{filter}
use Rattle.std.proofs.lemmas.Bool.{cases_Bool, and_parts, eqb-true, ne_eqb}
use Rattle.std.proofs.lemmas.Option.{none-some, same_Some}
use Rattle.com_msg.specs.declared.message.Message.{Message}
use Rattle.com_msg.specs.declared.rest.Kind.{Kind}
use Rattle.com_events.specs.declared.call.Party.TheVariants as party
use Rattle.com_events.specs.declared.call.StopReason.{StopReason}
use Rattle.com_events.specs.declared.call.Call.TheVariants as made
use Rattle.com_events.specs.declared.reply.Reply.{Reply}
use Rattle.com_net.specs.Numbers.{unit_number}
use Rattle.com_state.specs.Laws.{rests_of}
use Rattle.com_state.proofs.Frames.{option_cases, next_if-Some, queues_unit_mode, queues_verb}
use Rattle.com_state.specs.State.{State, unit_mode}
use Rattle.com_state.specs.declared.parties.UnitMode.TheVariants.{WaitingFor, Stopped}
use Rattle.com_state.specs.Answers.{is_ready}
use Rattle.com_state.specs.Steps.{is_running, with_unit_mode, with_verb, may_do_verb, with_reply, receive_running, is_waiting_for, step_receive, may_stop, unit_step, step}
use Rattle.com_recv.specs.declared.lists.Held.{Held}
use Rattle.com_recv.specs.Incoming.{designated, is_held_on, without_held, without_unit, with_held}
use Rattle.com_recv.specs.Receiving.{Next}
use Rattle.com_state.proofs.Verbs.{receive_in, receive_next_in, next_in}
use Rattle.com_msg.specs.Begun.{Begun, nothing_begun}
use Rattle.com_send.specs.Outgoing.{Outgoing, begun_for, drop_unit}
use Rattle.com_state.proofs.Places.{get_set_elsewhere}
use Rattle.com_state.proofs.StepCases.{unit_of_step}

-- no rest of the unit is one of another
other_unit : (unit leaf other : ℕ) (h : Held) → other ≢ unit → is_held_on unit leaf h ≡ true → (h.unit == other) ≡ false
other_unit unit leaf other h ne held =
    let of_unit : h.unit ≡ unit = eqb-true h.unit unit (and_parts (h.unit == unit) (h.leaf.number == leaf) held).0 in
    ne_eqb h.unit other (λ e. ne (sym e ∙ of_unit))

others_without : (unit leaf other : ℕ) (held : List Held) → other ≢ unit → filter (λ (h : Held). h.unit == other) (without_held unit leaf held) ≡ filter (λ (h : Held). h.unit == other) held
others_without unit leaf other [] ne = refl
others_without unit leaf other (h ∷ held) ne = elim (cases_Bool (is_held_on unit leaf h)) [
  | inl gone ↦ rw (gone, other_unit unit leaf other h ne gone) (others_without unit leaf other held ne)
  | inr stays ↦ elim (cases_Bool (h.unit == other)) [
    | inl here ↦ rw (stays, here) (ap (λ hs. h ∷ hs) (others_without unit leaf other held ne))
    | inr elsewhere ↦ rw (stays, elsewhere) (others_without unit leaf other held ne)
  ]
]

others_with : (unit leaf other : ℕ) (rest : Message) (pieces : List (List ℕ)) (held : List Held) → other ≢ unit
    → filter (λ (h : Held). h.unit == other) (with_held unit leaf rest pieces held) ≡ filter (λ (h : Held). h.unit == other) held
others_with unit leaf other rest [] held ne = refl
others_with unit leaf other rest (piece ∷ pieces) held ne = rw (ne_eqb unit other (λ e. ne (sym e))) refl

others_next : (S : State) (unit other : ℕ) (area : List ℕ) (kind : Kind) (size : ℕ) (found : Option Next) → other ≢ unit
    → rests_of (receive_next_in S unit area kind size found).1 other ≡ rests_of S other
others_next S unit other area kind size None ne = refl
others_next S unit other area kind size (Some next) ne =
    others_with unit next.leaf other _ _ (without_held unit next.leaf S.incoming.held) ne ∙ others_without unit next.leaf other S.incoming.held ne

others_receive : (S : State) (unit other : ℕ) (area : List ℕ) (kind : Kind) (size : ℕ) → other ≢ unit → rests_of (receive_in S unit area kind size).1 other ≡ rests_of S other
others_receive S unit other area kind size ne = elim (option_cases (designated S.net.tree area)) [
  | inl none ↦ rw (none, receive_in) refl
  | inr some ↦ rw (some.1, receive_in) (others_next S unit other area kind size (next_in S unit some.0) ne)
]

same_rests : (S next : State) (other : ℕ) → next.incoming ≡ S.incoming → rests_of next other ≡ rests_of S other
same_rests S next other e = ap (λ incoming. filter (λ (h : Held). h.unit == other) incoming.held) e

others_reply : (S : State) (unit other : ℕ) (area : List ℕ) (kind : Kind) (size : ℕ) → other ≢ unit → rests_of (with_reply unit (receive_in S unit area kind size)).1 other ≡ rests_of S other
others_reply S unit other area kind size ne =
    same_rests (receive_in S unit area kind size).1 (with_verb unit (receive_in S unit area kind size).1) other (queues_verb unit (receive_in S unit area kind size).1).incoming
    ∙ others_receive S unit other area kind size ne

others_running : (S : State) (unit other : ℕ) (area : List ℕ) (kind : Kind) (size : ℕ) (no_data : Bool) → other ≢ unit → rests_of (receive_running S unit area kind size no_data).1 other ≡ rests_of S other
others_running S unit other area kind size no_data ne = elim (cases_Bool ((no_data || is_none (designated S.net.tree area)) || is_ready S unit area)) [
  | inl now ↦ rw (now, receive_running) (others_reply S unit other area kind size ne)
  | inr later ↦ rw (later, receive_running) (same_rests S (with_unit_mode unit (WaitingFor area kind size) S) other (queues_unit_mode unit (WaitingFor area kind size) S).incoming)
]

at_next : (S next : State) (other : ℕ) (done : Reply × State) (reply : Reply) → done ≡ (reply, next) → rests_of done.1 other ≡ rests_of S other → rests_of next other ≡ rests_of S other
at_next S next other done reply e h = subst (λ (p : Reply × State). rests_of p.1 other ≡ rests_of S other) e h

others_step : (S : State) (unit other : ℕ) (area : List ℕ) (kind : Kind) (size : ℕ) (no_data : Bool) (reply : Reply) (next : State) → other ≢ unit
    → step_receive S unit area kind size no_data ≡ Some (reply, next) → rests_of next other ≡ rests_of S other
others_step S unit other area kind size no_data reply next ne h = elim (cases_Bool (is_running (unit_mode S unit))) [
  | inl runs ↦
      let done = rw (runs, step_receive) at h in
      at_next S next other (receive_running S unit area kind size no_data) reply (same_Some _ _ done) (others_running S unit other area kind size no_data ne)
  | inr waits ↦
      let resumed = rw (waits, step_receive) at h in
      at_next S next other (with_reply unit (receive_in S unit area kind size)) reply
      (next_if-Some (is_waiting_for (unit_mode S unit) area kind size no_data && is_ready S unit area) _ _ resumed) (others_reply S unit other area kind size ne)
]

-- a RECEIVE leaves the rests of other units
pub others_keep : (S next : State) (name : List ℕ) (unit other : ℕ) (area : List ℕ) (kind : Kind) (size : ℕ) (no_data : Bool) (reply : Reply) → unit_number S.net name ≡ Some unit → other ≢ unit
    → step S (party.Unit name) (made.Receive area kind size no_data) ≡ Some (reply, next) → rests_of next other ≡ rests_of S other
others_keep S next name unit other area kind size no_data reply found ne h =
    let here = unit_of_step S name unit (made.Receive area kind size no_data) reply next found h in
    elim (cases_Bool (may_do_verb S unit)) [
      | inl may ↦ others_step S unit other area kind size no_data reply next ne (rw (may, unit_step) at here)
      | inr done ↦ absurd (none-some (reply, next) (rw (done, unit_step) at here))
    ]

-- what is left out is not there
none_left : {X : Type 0} (p : X → Bool) (xs : List X) → filter p (filter (λ x. not (p x)) xs) ≡ []
none_left {X} p [] = refl
none_left {X} p (x ∷ xs) = elim (cases_Bool (p x)) [
  | inl out ↦ rw out (none_left p xs)
  | inr stays ↦ rw (stays, stays) (none_left p xs)
]

-- what is left out of one is no part of what is looked for
others_left : (unit other : ℕ) (held : List Held) → other ≢ unit
    → filter (λ (h : Held). h.unit == other) (without_unit unit held) ≡ filter (λ (h : Held). h.unit == other) held
others_left unit other [] ne = refl
others_left unit other (h ∷ held) ne = elim (cases_Bool (h.unit == unit)) [
  | inl out ↦
      let of_unit : h.unit ≡ unit = eqb-true h.unit unit out in
      rw (out, ne_eqb h.unit other (λ e. ne (sym e ∙ of_unit))) (others_left unit other held ne)
  | inr stays ↦ elim (cases_Bool (h.unit == other)) [
    | inl here ↦ rw (stays, here) (ap (λ rest. h ∷ rest) (others_left unit other held ne))
    | inr elsewhere ↦ rw (stays, elsewhere) (others_left unit other held ne)
  ]
]

-- what a unit that stops leaves begun
abbrev NothingBegun : Outgoing → ℕ → Type 0
NothingBegun outgoing unit = (terminal : ℕ) (begun : Begun) → begun_for outgoing unit terminal ≡ Some begun → begun ≡ nothing_begun

nothing_there : (begun : List Begun) (unit : ℕ) (b : Begun) → slice_get (slice_set begun unit nothing_begun) unit ≡ Some b → b ≡ nothing_begun
nothing_there [] unit b h = absurd (none-some b h)
nothing_there (one ∷ begun) zero b h = sym (same_Some nothing_begun b h)
nothing_there (one ∷ begun) (suc unit) b h = nothing_there begun unit b h

nothing_begun_then : (unit : ℕ) (outgoing : Outgoing) → NothingBegun (drop_unit unit outgoing) unit
nothing_begun_then unit [] terminal begun h = absurd (none-some begun h)
nothing_begun_then unit (state ∷ outgoing) zero begun h = nothing_there state.begun unit begun h
nothing_begun_then unit (state ∷ outgoing) (suc terminal) begun h = nothing_begun_then unit outgoing terminal begun h

-- what the others have begun
others_begun : (unit other : ℕ) (outgoing : Outgoing) (terminal : ℕ) → other ≢ unit → begun_for (drop_unit unit outgoing) other terminal ≡ begun_for outgoing other terminal
others_begun unit other [] terminal ne = refl
others_begun unit other (state ∷ outgoing) zero ne = get_set_elsewhere state.begun unit other nothing_begun ne
others_begun unit other (state ∷ outgoing) (suc terminal) ne = others_begun unit other outgoing terminal ne

-- the state when a unit has stopped
stopped_then : (S next : State) (name : List ℕ) (unit : ℕ) (reason : StopReason) (reply : Reply) → unit_number S.net name ≡ Some unit → step S (party.Unit name) (made.Stop reason) ≡ Some (reply, next)
    → (next.incoming.held ≡ without_unit unit S.incoming.held) × (next.outgoing ≡ drop_unit unit S.outgoing)
stopped_then S next name unit reason reply found h =
    let here = unit_of_step S name unit (made.Stop reason) reply next found h in
    let stopped_there = next_if-Some (may_stop S unit reason) _ _ here in
    let mid : State = record S { incoming = record S.incoming { held = without_unit unit S.incoming.held }; outgoing = drop_unit unit S.outgoing } in
    let same = queues_unit_mode unit Stopped mid in
    subst (λ (p : Reply × State). (p.1.incoming.held ≡ without_unit unit S.incoming.held) × (p.1.outgoing ≡ drop_unit unit S.outgoing)) stopped_there
    (ap (λ incoming. incoming.held) same.incoming, same.outgoing)

-- a unit that stops holds nothing, and has begun nothing
pub nothing_left : (S next : State) (name : List ℕ) (unit : ℕ) (reason : StopReason) (reply : Reply) → unit_number S.net name ≡ Some unit
    → step S (party.Unit name) (made.Stop reason) ≡ Some (reply, next) → (rests_of next unit ≡ []) × NothingBegun next.outgoing unit
nothing_left S next name unit reason reply found h =
    let then = stopped_then S next name unit reason reply found h in (
      ap (filter (λ h. h.unit == unit)) then.0 ∙ none_left (λ h. h.unit == unit) S.incoming.held,
      subst (λ outgoing. NothingBegun outgoing unit) (sym then.1) (nothing_begun_then unit S.outgoing),
    )

-- a unit that stops leaves the others
pub others_left_by_stop : (S next : State) (name : List ℕ) (unit other : ℕ) (reason : StopReason) (reply : Reply) → unit_number S.net name ≡ Some unit → other ≢ unit
    → step S (party.Unit name) (made.Stop reason) ≡ Some (reply, next)
    → (rests_of next other ≡ rests_of S other) × ((terminal : ℕ) → begun_for next.outgoing other terminal ≡ begun_for S.outgoing other terminal)
others_left_by_stop S next name unit other reason reply found ne h =
    let then = stopped_then S next name unit reason reply found h in (
      ap (filter (λ h. h.unit == other)) then.0 ∙ others_left unit other S.incoming.held ne,
      λ terminal. ap (λ outgoing. begun_for outgoing other terminal) then.1 ∙ others_begun unit other S.outgoing terminal ne,
    )
