-- What a step does to the party that makes it, and to no other.
use Rattle.std.proofs.Common.{◌≡◌, ◌≢◌, ℕ, ◌+◌, ◌<◌, ◌≤◌, Bool, true, ◌&&◌, nat_lt, List, Some, None, Option, refl, sym, ap, subst, ◌∙◌, inl, inr, arith}
use Rattle.std.specs.Prelude.{◌||◌, is_none, slice_get, slice_set}
use Rattle.std.proofs.Math.Path.{fun_ext}
use Rattle.std.proofs.lemmas.Bool.{cases_Bool, and_parts, ltb-true}
use Rattle.std.proofs.lemmas.Option.{none-some, same_Some}
use Rattle.com_msg.specs.declared.rest.Kind.{Kind}
use Rattle.com_msg.specs.Stamp.{Moment}
use Rattle.com_msg.specs.declared.message.RawMessage.{RawMessage}
use Rattle.com_tree.specs.declared.tree.Node.{Node}
use Rattle.com_events.specs.declared.call.Call.{Call}
use Rattle.com_events.specs.declared.call.Call.TheVariants as made
use Rattle.com_events.specs.declared.reply.Reply.{Reply}
use Rattle.com_events.specs.declared.reply.Reply.TheVariants.{Started, AreaIn, Waits, Done}
use Rattle.com_cd.specs.Designation.{path_fields}
use Rattle.com_recv.specs.declared.queues.Taken.{Taken}
use Rattle.com_recv.specs.declared.queues.Taken.TheVariants as taken
use Rattle.com_recv.specs.Areas.{path_of_leaf}
use Rattle.com_recv.specs.Incoming.{designated, chosen_leaf}
use Rattle.com_recv.specs.Receiving.{receive, count}
use Rattle.com_state.specs.declared.parties.TheConstants.{MAX_VERBS, MAX_ARRIVALS}
use Rattle.com_state.specs.declared.parties.UnitMode.{UnitMode}
use Rattle.com_state.specs.declared.parties.UnitMode.TheVariants.{Running, WaitingFor, Stopped}
use Rattle.com_state.specs.declared.parties.UnitState.{UnitState}
use Rattle.com_state.specs.declared.parties.TerminalMode.{TerminalMode}
use Rattle.com_state.specs.declared.parties.TerminalMode.TheVariants.{Holding, Ended}
use Rattle.com_state.specs.declared.parties.TerminalState.{TerminalState}
use Rattle.com_state.specs.State.{State, unit_mode}
use Rattle.com_state.specs.Answers.{is_ready, reply_of}
use Rattle.com_state.specs.Switches.{switch_input}
use Rattle.com_state.specs.Steps.{unit_step, terminal_step, with_reply, with_verb, with_arrival, with_unit_mode, with_terminal_mode, verb, start, schedule_of, receive_running, step_receive, is_waiting_for, is_running, is_dormant, may_do_verb, may_arrive, may_stop, stop_unit, arrive, feed_of}
use Rattle.com_state.specs.Parties.{after_unit_call, after_terminal_call, after_receive, with_verb_done}
use Rattle.com_state.proofs.Frames.{option_cases, next_if-Some}
use Rattle.com_state.proofs.Places.{get_set_here, get_set_elsewhere}
use Rattle.com_state.proofs.Receives.{next_if-true}
use Rattle.com_state.proofs.Aside.{aside_switch_input}
use Rattle.com_state.proofs.Verbs.{receive_in, send_in, switch_output_in}

-- the element at a place changed, where there is one
abbrev pub at_place : {X : Type 0} → List X → ℕ → (X → X) → List X
at_place {X} xs i f = elim (slice_get xs i) [
  | None ↦ xs
  | Some x ↦ slice_set xs i (f x)
]

pub at_here : {X : Type 0} (xs : List X) (i : ℕ) (f : X → X) (x : X) → slice_get xs i ≡ Some x → slice_get (at_place xs i f) i ≡ Some (f x)
at_here {X} xs i f x e =
    let set : at_place xs i f ≡ slice_set xs i (f x) = rw (e, at_place) refl in
    ap (λ ys. slice_get ys i) set ∙ get_set_here xs i x (f x) e

pub at_elsewhere : {X : Type 0} (xs : List X) (i j : ℕ) (f : X → X) → j ≢ i → slice_get (at_place xs i f) j ≡ slice_get xs j
at_elsewhere {X} xs i j f ne = elim (option_cases (slice_get xs i)) [
  | inl none ↦
      let same : at_place xs i f ≡ xs = rw (none, at_place) refl in
      ap (λ ys. slice_get ys j) same
  | inr some ↦
      let set : at_place xs i f ≡ slice_set xs i (f some.0) = rw (some.1, at_place) refl in
      ap (λ ys. slice_get ys j) set ∙ get_set_elsewhere xs i j (f some.0) ne
]

-- modes and counts
units_mode : (unit : ℕ) (mode : UnitMode) (S : State) → (with_unit_mode unit mode S).units ≡ at_place S.units unit (λ (u : UnitState). record u { mode = mode })
units_mode unit mode S = elim (option_cases (slice_get S.units unit)) [
  | inl none ↦ rw (none, with_unit_mode, at_place) refl
  | inr some ↦ rw (some.1, with_unit_mode, at_place) refl
]

units_verb : (unit : ℕ) (S : State) → (with_verb unit S).units ≡ at_place S.units unit with_verb_done
units_verb unit S = elim (option_cases (slice_get S.units unit)) [
  | inl none ↦ rw (none, with_verb, at_place) refl
  | inr some ↦ rw (some.1, with_verb, at_place) refl
]

terminals_mode : (terminal : ℕ) (mode : TerminalMode) (S : State) → (with_terminal_mode terminal mode S).terminals ≡ at_place S.terminals terminal (λ (t : TerminalState). record t { mode = mode })
terminals_mode terminal mode S = elim (option_cases (slice_get S.terminals terminal)) [
  | inl none ↦ rw (none, with_terminal_mode, at_place) refl
  | inr some ↦ rw (some.1, with_terminal_mode, at_place) refl
]

terminals_arrival : (terminal : ℕ) (stamp : Moment) (message : RawMessage) (S : State)
    → (with_arrival terminal S).terminals ≡ at_place S.terminals terminal (λ (t : TerminalState). after_terminal_call t (made.Arrive stamp message))
terminals_arrival terminal stamp message S = elim (option_cases (slice_get S.terminals terminal)) [
  | inl none ↦ rw (none, with_arrival, at_place) refl
  | inr some ↦ rw (some.1, with_arrival, at_place) refl
]

-- what a change of units alone leaves
pub record OnlyUnits (S next : State) : Type 0 where
  pub net : next.net ≡ S.net
  pub terminals : next.terminals ≡ S.terminals

only_mode : (unit : ℕ) (mode : UnitMode) (S : State) → OnlyUnits S (with_unit_mode unit mode S)
only_mode unit mode S = elim (option_cases (slice_get S.units unit)) [
  | inl none ↦ rw (none, with_unit_mode) record { net = refl; terminals = refl }
  | inr some ↦ rw (some.1, with_unit_mode) record { net = refl; terminals = refl }
]

only_verb : (unit : ℕ) (S : State) → OnlyUnits S (with_verb unit S)
only_verb unit S = elim (option_cases (slice_get S.units unit)) [
  | inl none ↦ rw (none, with_verb) record { net = refl; terminals = refl }
  | inr some ↦ rw (some.1, with_verb) record { net = refl; terminals = refl }
]

-- and of terminals alone
pub record OnlyTerminals (S next : State) : Type 0 where
  pub net : next.net ≡ S.net
  pub units : next.units ≡ S.units

only_terminal_mode : (terminal : ℕ) (mode : TerminalMode) (S : State) → OnlyTerminals S (with_terminal_mode terminal mode S)
only_terminal_mode terminal mode S = elim (option_cases (slice_get S.terminals terminal)) [
  | inl none ↦ rw (none, with_terminal_mode) record { net = refl; units = refl }
  | inr some ↦ rw (some.1, with_terminal_mode) record { net = refl; units = refl }
]

only_arrival : (terminal : ℕ) (S : State) → OnlyTerminals S (with_arrival terminal S)
only_arrival terminal S = elim (option_cases (slice_get S.terminals terminal)) [
  | inl none ↦ rw (none, with_arrival) record { net = refl; units = refl }
  | inr some ↦ rw (some.1, with_arrival) record { net = refl; units = refl }
]

-- what a call of a unit does to the units: the unit is as its call and reply tell, and its count
-- stays within the limit
pub record UnitDone (S : State) (unit : ℕ) (call : Call) (reply : Reply) (next : State) : Type 0 where
  pub net : next.net ≡ S.net
  pub terminals : next.terminals ≡ S.terminals
  pub units : next.units ≡ at_place S.units unit (λ (u : UnitState). after_unit_call u call reply)
  pub counted : (u : UnitState) → slice_get S.units unit ≡ Some u → u.verbs ≤ MAX_VERBS → (after_unit_call u call reply).verbs ≤ MAX_VERBS

by_unit_done : (S : State) (unit : ℕ) (call : Call) (done : Reply × State) (reply : Reply) (next : State) → done ≡ (reply, next) → UnitDone S unit call done.0 done.1 → UnitDone S unit call reply next
by_unit_done S unit call done reply next e h = subst (λ (p : Reply × State). UnitDone S unit call p.0 p.1) e h

-- where the mode alone changes
mode_done : (S : State) (unit : ℕ) (call : Call) (reply : Reply) (mode : UnitMode) → ((u : UnitState) → after_unit_call u call reply ≡ record u { mode = mode }) → UnitDone S unit call reply (with_unit_mode unit mode S)
mode_done S unit call reply mode is = record {
  net = (only_mode unit mode S).net;
  terminals = (only_mode unit mode S).terminals;
  units = units_mode unit mode S ∙ ap (at_place S.units unit) (fun_ext (λ u. sym (is u)));
  counted = λ u at low. subst (λ (v : UnitState). v.verbs ≤ MAX_VERBS) (sym (is u)) low;
}

-- a verb that may be done stays within the limit
counts_on : (S : State) (unit : ℕ) (u : UnitState) → may_do_verb S unit ≡ true → slice_get S.units unit ≡ Some u → u.verbs + 1 ≤ MAX_VERBS
counts_on S unit u may at =
    let few : nat_lt u.verbs MAX_VERBS ≡ true = rw (at, may_do_verb) at may in
    let less : u.verbs < MAX_VERBS = ltb-true u.verbs MAX_VERBS few in
    omega (arith, less)

-- where a verb is done
verb_done : (S : State) (unit : ℕ) (call : Call) (done : Reply × State) → may_do_verb S unit ≡ true → done.1.units ≡ S.units → OnlyUnits S done.1
    → ((u : UnitState) → after_unit_call u call done.0 ≡ with_verb_done u) → UnitDone S unit call done.0 (with_verb unit done.1)
verb_done S unit call done may same only is = record {
  net = (only_verb unit done.1).net ∙ only.net;
  terminals = (only_verb unit done.1).terminals ∙ only.terminals;
  units = units_verb unit done.1 ∙ (ap (λ us. at_place us unit with_verb_done) same ∙ ap (at_place S.units unit) (fun_ext (λ u. sym (is u))));
  counted = λ u at low. subst (λ (v : UnitState). v.verbs ≤ MAX_VERBS) (sym (is u)) (counts_on S unit u may at);
}

-- START
start_done : (S : State) (unit : ℕ) (schedule : Option Node) (reply : Reply) (next : State) → start S unit schedule ≡ Some (reply, next) → UnitDone S unit made.Start reply next
start_done S unit None reply next h = by_unit_done S unit made.Start (Started None, with_unit_mode unit Running S) reply next (same_Some _ _ h) (mode_done S unit made.Start (Started None) Running (λ u. refl))
start_done S unit (Some node) reply next h = elim (option_cases (chosen_leaf S.net.tree S.incoming.waiting node)) [
  | inl none ↦ absurd (none-some (reply, next) (rw none at h))
  | inr some ↦
      let told = Started (Some (path_fields (path_of_leaf S.net.tree some.0))) in
      let done : Some (told, with_unit_mode unit Running S) ≡ Some (reply, next) = rw some.1 at h in
      by_unit_done S unit made.Start (told, with_unit_mode unit Running S) reply next (same_Some _ _ done) (mode_done S unit made.Start told Running (λ u. refl))
]

-- RECEIVE
not_waits : (u : UnitState) (waiting : UnitMode) (given : Taken) (area : List ℕ) → after_receive u waiting (reply_of given area) ≡ with_verb_done u
not_waits u waiting (taken.Given text) area = refl
not_waits u waiting taken.NoData area = refl
not_waits u waiting taken.Unknown area = refl

received_done : (S : State) (unit : ℕ) (area : List ℕ) (kind : Kind) (size : ℕ) (no_data : Bool) → may_do_verb S unit ≡ true
    → UnitDone S unit (made.Receive area kind size no_data) (receive_in S unit area kind size).0 (with_verb unit (receive_in S unit area kind size).1)
received_done S unit area kind size no_data may =
    let got = receive S.net.tree S.incoming unit area kind size in
    verb_done S unit (made.Receive area kind size no_data) (receive_in S unit area kind size) may refl record { net = refl; terminals = refl }
    (λ u. not_waits u (WaitingFor area kind size) got.0 got.1)

receive_done : (S : State) (unit : ℕ) (area : List ℕ) (kind : Kind) (size : ℕ) (no_data : Bool) (reply : Reply) (next : State) → may_do_verb S unit ≡ true
    → step_receive S unit area kind size no_data ≡ Some (reply, next) → UnitDone S unit (made.Receive area kind size no_data) reply next
receive_done S unit area kind size no_data reply next may h = elim (cases_Bool (is_running (unit_mode S unit))) [
  | inl runs ↦
      let ran : receive_running S unit area kind size no_data ≡ (reply, next) = same_Some _ _ (rw (runs, step_receive) at h) in
      elim (cases_Bool ((no_data || is_none (designated S.net.tree area)) || is_ready S unit area)) [
        | inl now ↦
            let done : with_reply unit (receive_in S unit area kind size) ≡ (reply, next) = rw (now, receive_running) at ran in
            by_unit_done S unit (made.Receive area kind size no_data) (with_reply unit (receive_in S unit area kind size)) reply next done (received_done S unit area kind size no_data may)
        | inr later ↦
            let waits : ◌≡◌ {A = Reply × State} (Waits, with_unit_mode unit (WaitingFor area kind size) S) (reply, next) = rw (later, receive_running) at ran in
            by_unit_done S unit (made.Receive area kind size no_data) (Waits, with_unit_mode unit (WaitingFor area kind size) S) reply next waits
            (mode_done S unit (made.Receive area kind size no_data) Waits (WaitingFor area kind size) (λ u. refl))
      ]
  | inr other ↦
      let resumed = rw (other, step_receive) at h in
      by_unit_done S unit (made.Receive area kind size no_data) (with_reply unit (receive_in S unit area kind size)) reply next
      (next_if-Some (is_waiting_for (unit_mode S unit) area kind size no_data && is_ready S unit area) _ _ resumed) (received_done S unit area kind size no_data may)
]

-- the other verbs
other_done : (S : State) (unit : ℕ) (call : Call) (done : Reply × State) (reply : Reply) (next : State) → verb S unit done ≡ Some (reply, next) → done.1.units ≡ S.units → OnlyUnits S done.1
    → ((u : UnitState) → after_unit_call u call done.0 ≡ with_verb_done u) → UnitDone S unit call reply next
other_done S unit call done reply next h same only is =
    let test = is_running (unit_mode S unit) && may_do_verb S unit in
    let may = (and_parts (is_running (unit_mode S unit)) (may_do_verb S unit) (next_if-true test (with_reply unit done) (reply, next) h)).1 in
    by_unit_done S unit call (with_reply unit done) reply next (next_if-Some test _ _ h) (verb_done S unit call done may same only is)

-- STOP
stop_done : (S : State) (unit : ℕ) (call : Call) (reply : Reply) (mid : State) → OnlyUnits S mid → mid.units ≡ S.units → ((u : UnitState) → after_unit_call u call reply ≡ record u { mode = Stopped })
    → UnitDone S unit call reply (with_unit_mode unit Stopped mid)
stop_done S unit call reply mid only same is =
    let there = mode_done mid unit call reply Stopped is in
    record {
      net = there.net ∙ only.net;
      terminals = there.terminals ∙ only.terminals;
      units = there.units ∙ ap (λ us. at_place us unit (λ (u : UnitState). after_unit_call u call reply)) same;
      counted = λ u at low. there.counted u (ap (λ us. slice_get us unit) same ∙ at) low;
    }

-- every call of a unit
pub unit_done : (S : State) (unit : ℕ) (call : Call) (reply : Reply) (next : State) → unit_step S unit call ≡ Some (reply, next) → UnitDone S unit call reply next
unit_done S unit made.Start reply next h = elim (cases_Bool (is_dormant (unit_mode S unit))) [
  | inl dormant ↦ start_done S unit (schedule_of S.net unit) reply next (rw (dormant, unit_step) at h)
  | inr other ↦ absurd (none-some (reply, next) (rw (other, unit_step) at h))
]
unit_done S unit (made.Receive area kind size no_data) reply next h = elim (cases_Bool (may_do_verb S unit)) [
  | inl may ↦ receive_done S unit area kind size no_data reply next may (rw (may, unit_step) at h)
  | inr done ↦ absurd (none-some (reply, next) (rw (done, unit_step) at h))
]
unit_done S unit (made.Count area) reply next h = other_done S unit (made.Count area) (AreaIn (count S.net.tree S.incoming area), S) reply next h refl record { net = refl; terminals = refl } (λ u. refl)
unit_done S unit (made.Send area part item) reply next h = other_done S unit (made.Send area part item) (send_in S unit area part item) reply next h refl record { net = refl; terminals = refl } (λ u. refl)
unit_done S unit (made.SwitchInput on terminal area key) reply next h =
    let same = aside_switch_input S on terminal area key in
    other_done S unit (made.SwitchInput on terminal area key) (switch_input S on terminal area key) reply next h same.units record { net = same.net; terminals = same.terminals } (λ u. refl)
unit_done S unit (made.SwitchOutput on area key) reply next h = other_done S unit (made.SwitchOutput on area key) (switch_output_in S on area key) reply next h refl record { net = refl; terminals = refl } (λ u. refl)
unit_done S unit (made.Stop reason) reply next h =
    by_unit_done S unit (made.Stop reason) (Done, stop_unit S unit) reply next (next_if-Some (may_stop S unit reason) _ _ h)
    (stop_done S unit (made.Stop reason) Done _ record { net = refl; terminals = refl } refl (λ u. refl))
unit_done S unit (made.Arrive stamp message) reply next h = absurd (none-some (reply, next) h)
unit_done S unit made.Held reply next h = absurd (none-some (reply, next) h)
unit_done S unit (made.Finish reason) reply next h = absurd (none-some (reply, next) h)

-- what a call of a terminal does to the terminals
pub record TerminalDone (S : State) (terminal : ℕ) (call : Call) (next : State) : Type 0 where
  pub net : next.net ≡ S.net
  pub units : next.units ≡ S.units
  pub terminals : next.terminals ≡ at_place S.terminals terminal (λ (t : TerminalState). after_terminal_call t call)
  pub counted : (t : TerminalState) → slice_get S.terminals terminal ≡ Some t → t.arrivals ≤ MAX_ARRIVALS → (after_terminal_call t call).arrivals ≤ MAX_ARRIVALS

by_terminal_done : (S : State) (terminal : ℕ) (call : Call) (done : Reply × State) (reply : Reply) (next : State) → done ≡ (reply, next) → TerminalDone S terminal call done.1 → TerminalDone S terminal call next
by_terminal_done S terminal call done reply next e h = subst (λ (p : Reply × State). TerminalDone S terminal call p.1) e h

terminal_mode_done : (S : State) (terminal : ℕ) (call : Call) (mode : TerminalMode) → ((t : TerminalState) → after_terminal_call t call ≡ record t { mode = mode }) → TerminalDone S terminal call (with_terminal_mode terminal mode S)
terminal_mode_done S terminal call mode is = record {
  net = (only_terminal_mode terminal mode S).net;
  units = (only_terminal_mode terminal mode S).units;
  terminals = terminals_mode terminal mode S ∙ ap (at_place S.terminals terminal) (fun_ext (λ t. sym (is t)));
  counted = λ t at low. subst (λ (v : TerminalState). v.arrivals ≤ MAX_ARRIVALS) (sym (is t)) low;
}

arrives_on : (S : State) (terminal : ℕ) (t : TerminalState) → may_arrive S terminal ≡ true → slice_get S.terminals terminal ≡ Some t → t.arrivals + 1 ≤ MAX_ARRIVALS
arrives_on S terminal t may at =
    let few : nat_lt t.arrivals MAX_ARRIVALS ≡ true = rw (at, may_arrive) at may in
    let less : t.arrivals < MAX_ARRIVALS = ltb-true t.arrivals MAX_ARRIVALS few in
    omega (arith, less)

arrive_done : (S mid : State) (terminal : ℕ) (stamp : Moment) (message : RawMessage) → mid.net ≡ S.net → mid.units ≡ S.units → mid.terminals ≡ S.terminals → may_arrive S terminal ≡ true
    → TerminalDone S terminal (made.Arrive stamp message) (with_arrival terminal mid)
arrive_done S mid terminal stamp message net units terminals may = record {
  net = (only_arrival terminal mid).net ∙ net;
  units = (only_arrival terminal mid).units ∙ units;
  terminals = terminals_arrival terminal stamp message mid ∙ ap (λ ts. at_place ts terminal (λ (t : TerminalState). after_terminal_call t (made.Arrive stamp message))) terminals;
  counted = λ t at low. arrives_on S terminal t may at;
}

-- every call of a terminal
pub terminal_done : (S : State) (terminal : ℕ) (name : List ℕ) (call : Call) (reply : Reply) (next : State) → terminal_step S terminal name call ≡ Some (reply, next) → TerminalDone S terminal call next
terminal_done S terminal name (made.Arrive stamp message) reply next h = elim (option_cases (feed_of S.net terminal)) [
  | inl none ↦ absurd (none-some (reply, next) (rw (none, terminal_step) at h))
  | inr some ↦
      let come = rw (some.1, terminal_step) at h in
      let may = (and_parts _ (may_arrive S terminal) (next_if-true _ (arrive S terminal name stamp message some.0) (reply, next) come)).1 in
      by_terminal_done S terminal (made.Arrive stamp message) (arrive S terminal name stamp message some.0) reply next (next_if-Some _ _ _ come)
      (arrive_done S _ terminal stamp message refl refl refl may)
]
terminal_done S terminal name made.Held reply next h =
    by_terminal_done S terminal made.Held (Done, with_terminal_mode terminal Holding S) reply next (next_if-Some _ _ _ h) (terminal_mode_done S terminal made.Held Holding (λ t. refl))
terminal_done S terminal name (made.Finish reason) reply next h =
    by_terminal_done S terminal (made.Finish reason) (Done, with_terminal_mode terminal Ended S) reply next (next_if-Some _ _ _ h) (terminal_mode_done S terminal (made.Finish reason) Ended (λ t. refl))
terminal_done S terminal name made.Start reply next h = absurd (none-some (reply, next) h)
terminal_done S terminal name (made.Receive area kind size no_data) reply next h = absurd (none-some (reply, next) h)
terminal_done S terminal name (made.Count area) reply next h = absurd (none-some (reply, next) h)
terminal_done S terminal name (made.Send area part item) reply next h = absurd (none-some (reply, next) h)
terminal_done S terminal name (made.SwitchInput on is_terminal area key) reply next h = absurd (none-some (reply, next) h)
terminal_done S terminal name (made.SwitchOutput on area key) reply next h = absurd (none-some (reply, next) h)
terminal_done S terminal name (made.Stop reason) reply next h = absurd (none-some (reply, next) h)
