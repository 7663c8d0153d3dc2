-- How long a portion is, and what START and ARRIVE are answered.
use Rattle.std.proofs.Common.{◌≡◌, ℕ, ◌≤◌, Bool, ◌&&◌, Some, None, Option, List, [], ◌∷◌, length, take, inl, inr, sym, subst, arith, nat_le}
use Rattle.std.specs.Prelude.{◌||◌, is_none}
use Rattle.std.specs.List.{concat}
use Rattle.std.proofs.Math.ListN.{length-take}
use Rattle.std.proofs.lemmas.Bool.{cases_Bool, leb-true}
use Rattle.std.proofs.lemmas.Option.{none-some, same_Some}
use Rattle.com_msg.specs.Stamp.{Moment}
use Rattle.com_msg.specs.declared.message.End.{End}
use Rattle.com_msg.specs.declared.message.RawMessage.{RawMessage}
use Rattle.com_msg.specs.declared.rest.Kind.{Kind}
use Rattle.com_msg.specs.declared.rest.Kind.TheVariants.{Message, Segment}
use Rattle.com_msg.specs.Portion.{portion, message_portion, segment_portion}
use Rattle.com_tree.specs.declared.tree.Node.{Node}
use Rattle.com_tree.specs.declared.tree.TreeRow.{TreeRow}
use Rattle.com_events.specs.declared.call.Party.TheVariants as party
use Rattle.com_events.specs.declared.call.Call.TheVariants as made
use Rattle.com_events.specs.declared.reply.Reply.{Reply}
use Rattle.com_events.specs.declared.reply.Reply.TheVariants.{Started, Given, Arrived}
use Rattle.com_state.proofs.Frames.{option_cases, next_if-Some}
use Rattle.com_state.specs.State.{State, unit_mode}
use Rattle.com_state.specs.Answers.{is_ready, reply_of, received, IsShort}
use Rattle.com_state.specs.Steps.{is_dormant, is_running, may_do_verb, with_reply, feed_of, schedule_of, start, receive_running, is_waiting_for, step_receive, arrive, unit_step, terminal_step, step}
use Rattle.com_msg.specs.declared.rest.TheConstants.{MAX_SIZE}
use Rattle.com_recv.specs.declared.queues.Taken.{Taken}
use Rattle.com_recv.specs.declared.queues.Taken.TheVariants as taken
use Rattle.com_recv.specs.Incoming.{Incoming, designated, chosen_leaf}
use Rattle.com_recv.specs.Receiving.{Next, Received, receive}
use Rattle.com_state.proofs.Verbs.{receive_in, receive_next_in, next_in}
use Rattle.com_state.proofs.StepCases.{step_of_unit, step_of_terminal}

-- no more than the first characters are no more than their number
length-front : (n : ℕ) (xs : List ℕ) → length (take n xs) ≤ n
length-front n xs = simp length-take (omega arith)

length-message : (size : ℕ) (end : End) (pieces : List (List ℕ)) → length (message_portion size end pieces).0.text ≤ size
length-message size end pieces = elim (cases_Bool (nat_le (length (concat pieces)) size)) [
  | inl all ↦ rw all (leb-true (length (concat pieces)) size all)
  | inr more ↦ rw more (length-front size (concat pieces))
]

length-segment : (size : ℕ) (end : End) (pieces : List (List ℕ)) → length (segment_portion size end pieces).0.text ≤ size
length-segment size end [] = omega arith
length-segment size end (piece ∷ pieces) = elim (cases_Bool (nat_le (length piece) size)) [
  | inl all ↦ rw all (leb-true (length piece) size all)
  | inr more ↦ rw more (length-front size piece)
]

-- a portion has no more characters than were asked for
length-portion : (kind : Kind) (size : ℕ) (end : End) (pieces : List (List ℕ)) → length (portion kind size end pieces).0.text ≤ size
length-portion Message size end pieces = length-message size end pieces
length-portion Segment size end pieces = length-segment size end pieces

-- a reply that gives no more characters than these
abbrev GivesUpTo : ℕ → Reply → Type 0
GivesUpTo size (Given given text) = length text ≤ size
GivesUpTo size _ = Unit {0}

up_to_next : (S : State) (unit : ℕ) (area : List ℕ) (kind : Kind) (size : ℕ) (found : Option Next) → GivesUpTo size (receive_next_in S unit area kind size found).0
up_to_next S unit area kind size None = tt
up_to_next S unit area kind size (Some next) = length-portion kind size next.rest.end next.rest.segments

up_to_receive : (S : State) (unit : ℕ) (area : List ℕ) (kind : Kind) (size : ℕ) → GivesUpTo size (receive_in S unit area kind size).0
up_to_receive S unit area kind size = elim (option_cases (designated S.net.tree area)) [
  | inl none ↦ rw (none, receive_in) tt
  | inr some ↦ rw (some.1, receive_in) (up_to_next S unit area kind size (next_in S unit some.0))
]

up_to_running : (S : State) (unit : ℕ) (area : List ℕ) (kind : Kind) (size : ℕ) (no_data : Bool) → GivesUpTo size (receive_running S unit area kind size no_data).0
up_to_running S unit area kind size no_data = elim (cases_Bool ((no_data || is_none (designated S.net.tree area)) || is_ready S unit area)) [
  | inl now ↦ rw (now, receive_running) (up_to_receive S unit area kind size)
  | inr later ↦ rw (later, receive_running) tt
]

up_to_done : (size : ℕ) (done : Reply × State) (reply : Reply) (next : State) → done ≡ (reply, next) → GivesUpTo size done.0 → GivesUpTo size reply
up_to_done size done reply next e h = subst (λ (p : Reply × State). GivesUpTo size p.0) e h

up_to_step : (S : State) (unit : ℕ) (area : List ℕ) (kind : Kind) (size : ℕ) (no_data : Bool) (reply : Reply) (next : State) → step_receive S unit area kind size no_data ≡ Some (reply, next) → GivesUpTo size reply
up_to_step S unit area kind size no_data reply next h = elim (cases_Bool (is_running (unit_mode S unit))) [
  | inl runs ↦
      let done = rw (runs, step_receive) at h in
      up_to_done size (receive_running S unit area kind size no_data) reply next (same_Some _ _ done) (up_to_running S unit area kind size no_data)
  | inr waits ↦
      let resumed = rw (waits, step_receive) at h in
      up_to_done size (with_reply unit (receive_in S unit area kind size)) reply next
      (next_if-Some (is_waiting_for (unit_mode S unit) area kind size no_data && is_ready S unit area) _ _ resumed) (up_to_receive S unit area kind size)
]

-- RECEIVE gives no more characters than it asks for
pub no_more_than_asked : (S next : State) (name area given text : List ℕ) (kind : Kind) (size : ℕ) (no_data : Bool)
    → step S (party.Unit name) (made.Receive area kind size no_data) ≡ Some (Given given text, next) → length text ≤ size
no_more_than_asked S next name area given text kind size no_data h =
    let its = step_of_unit S name (made.Receive area kind size no_data) (Given given text) next h in
    elim (cases_Bool (may_do_verb S its.0)) [
      | inl may ↦ up_to_step S its.0 area kind size no_data (Given given text) next (rw (may, unit_step) at its.2)
      | inr done ↦ absurd (none-some (Given given text, next) (rw (done, unit_step) at its.2))
    ]

abbrev IsStart : Reply → Type 0
IsStart (Started names) = Unit {0}
IsStart _ = ⊥

abbrev IsArrival : Reply → Type 0
IsArrival (Arrived number) = Unit {0}
IsArrival _ = ⊥

is_start : (done : Reply × State) (reply : Reply) (next : State) → Some done ≡ Some (reply, next) → IsStart done.0 → IsStart reply
is_start done reply next e h = subst (λ (p : Reply × State). IsStart p.0) (same_Some done (reply, next) e) h

started_unit : (S : State) (unit : ℕ) (schedule : Option Node) (reply : Reply) (next : State) → start S unit schedule ≡ Some (reply, next) → IsStart reply
started_unit S unit None reply next h = is_start _ reply next h tt
started_unit S unit (Some node) reply next h = elim (option_cases (chosen_leaf S.net.tree S.incoming.waiting node)) [
  | inl none ↦ absurd (none-some (reply, next) (rw none at h))
  | inr some ↦ is_start _ reply next (rw some.1 at h) tt
]

-- START is answered that the unit runs
pub only_started : (S next : State) (name area text : List ℕ) → step S (party.Unit name) made.Start ≡ Some (Given area text, next) → ⊥
only_started S next name area text h =
    let its = step_of_unit S name made.Start (Given area text) next h in
    elim (cases_Bool (is_dormant (unit_mode S its.0))) [
      | inl dormant ↦ started_unit S its.0 (schedule_of S.net its.0) (Given area text) next (rw (dormant, unit_step) at its.2)
      | inr other ↦ none-some (Given area text, next) (rw (other, unit_step) at its.2)
    ]

-- ARRIVE is answered by a number
pub only_arrived : (S next : State) (name area text : List ℕ) (stamp : Moment) (message : RawMessage) → step S (party.Terminal name) (made.Arrive stamp message) ≡ Some (Given area text, next) → ⊥
only_arrived S next name area text stamp message h =
    let its = step_of_terminal S name (made.Arrive stamp message) (Given area text) next h in
    elim (option_cases (feed_of S.net its.0)) [
      | inl unfed ↦ none-some (Given area text, next) (rw (unfed, terminal_step) at its.2)
      | inr fed ↦ subst (λ (p : Reply × State). IsArrival p.0) (next_if-Some _ (arrive S its.0 name stamp message fed.0) (Given area text, next) (rw (fed.1, terminal_step) at its.2)) tt
    ]

-- and that is what is taken by a RECEIVE
short_of : (size : ℕ) (done : Taken) (after : List ℕ) → size ≤ MAX_SIZE → GivesUpTo size (reply_of done after) → IsShort done
short_of size (taken.Given text) after few up = omega (arith, few, up)
short_of size taken.NoData after few up = tt
short_of size taken.Unknown after few up = tt

pub short_taken : (S : State) (tree : List TreeRow) (incoming : Incoming) (unit : ℕ) (area : List ℕ) (kind : Kind) (size : ℕ) (done : Taken) (after : List ℕ) (left : Incoming) → size ≤ MAX_SIZE
    → (done, after, left) ≡ receive tree incoming unit area kind size → IsShort done
short_taken S tree incoming unit area kind size done after left few is =
    let here : State = record S { net = record S.net { tree = tree }; incoming = incoming } in
    short_of size done after few (subst (λ (found : Received). GivesUpTo size (received here found).0) (sym is) (up_to_receive here unit area kind size))
