-- Which reply a call has.
use Rattle.std.proofs.Common.{◌≡◌, ◌≢◌, ℕ, Bool, true, false, ◌&&◌, List, Some, None, Option, refl, sym, ap, subst, ◌∙◌, inl, inr, if◌then◌else◌}
use Rattle.std.specs.Prelude.{◌||◌, ◌⊎◌, is_some, is_none, option_map, option_and_then, slice_get}
use Rattle.std.proofs.lemmas.Bool.{cases_Bool, false≢true, and_parts}
use Rattle.std.proofs.lemmas.Option.{none-some, same_Some}
use Rattle.com_msg.specs.declared.rest.Kind.{Kind}
use Rattle.com_tree.specs.declared.tree.Node.{Node}
use Rattle.com_net.specs.declared.net.Feed.{Feed}
use Rattle.com_net.specs.declared.net.Terminal.{Terminal}
use Rattle.com_tree.specs.Places.{top_of}
use Rattle.com_net.specs.Numbers.{unit_number, terminal_number}
use Rattle.com_events.specs.declared.call.Party.{Party}
use Rattle.com_events.specs.declared.call.Party.TheVariants as party
use Rattle.com_events.specs.declared.call.Call.{Call}
use Rattle.com_events.specs.declared.call.Call.TheVariants as made
use Rattle.com_events.specs.declared.reply.Reply.{Reply}
use Rattle.com_events.specs.declared.reply.Reply.TheVariants.{Started, Given, NoData, Refused, Waits, AreaIn, AreaOut, Arrived, Done}
use Rattle.com_cd.specs.InputArea.{in_field}
use Rattle.com_cd.specs.declared.input_area.InField.TheVariants as field
use Rattle.com_cd.specs.Designation.{path_fields}
use Rattle.com_recv.specs.declared.queues.Taken.{Taken}
use Rattle.com_recv.specs.declared.queues.Taken.TheVariants as taken
use Rattle.com_recv.specs.Areas.{path_of_leaf}
use Rattle.com_recv.specs.Incoming.{designated, chosen_leaf}
use Rattle.com_recv.specs.Receiving.{receive, receive_at, next_rest, count}
use Rattle.com_send.specs.Found.{destination_with}
use Rattle.com_state.specs.declared.parties.UnitMode.{UnitMode}
use Rattle.com_state.specs.declared.parties.UnitMode.TheVariants.{Running, WaitingFor, Stopped}
use Rattle.com_state.specs.declared.parties.UnitState.{UnitState}
use Rattle.com_state.specs.declared.parties.TerminalMode.TheVariants.{Holding, Ended}
use Rattle.com_state.specs.declared.parties.TerminalState.{TerminalState}
use Rattle.com_state.specs.State.{State, destinations_of, unit_mode}
use Rattle.com_state.specs.Answers.{is_ready, reply_of}
use Rattle.com_state.specs.Switches.{switch_input, switch_leaves, switch_terminal, is_key}
use Rattle.com_state.specs.Steps.{step, unit_step, terminal_step, start, schedule_of, feed_of, is_dormant, is_running, is_waiting_for, may_do_verb, may_stop, may_finish, verb, with_reply, with_unit_mode, with_terminal_mode, step_receive, receive_running, stop_unit, arrive, next_if}
use Rattle.com_state.specs.Waits.{is_of_kind}
use Rattle.com_state.proofs.Frames.{option_cases, next_if-Some}
use Rattle.com_state.proofs.Receives.{next_if-true}
use Rattle.com_state.proofs.StepCases.{step_of_unit, step_of_terminal, unit_of_step}
use Rattle.com_state.proofs.Verbs.{receive_in, send_in, switch_output_in}
use Rattle.com_state.proofs.Owned.{at_place, at_elsewhere, unit_done, terminal_done}
use Rattle.com_state.specs.Parties.{after_unit_call, after_terminal_call}
use Rattle.com_events.specs.Calls.{IsUnitCall}

abbrev is_waits : Reply → Bool
is_waits Waits = true
is_waits _ = false

abbrev is_no_data : Reply → Bool
is_no_data (NoData after) = true
is_no_data _ = false

abbrev has_names : Reply → Bool
has_names (Started names) = is_some names
has_names _ = false

-- what was taken is no WAITS
taken_waits : (given : Taken) (area : List ℕ) → is_waits (reply_of given area) ≡ false
taken_waits (taken.Given text) area = refl
taken_waits taken.NoData area = refl
taken_waits taken.Unknown area = refl

taken_kind : (given : Taken) (after area : List ℕ) (kind : Kind) (size : ℕ) (no_data : Bool) → is_of_kind (made.Receive area kind size no_data) (reply_of given after) ≡ true
taken_kind (taken.Given text) after area kind size no_data = refl
taken_kind taken.NoData after area kind size no_data = refl
taken_kind taken.Unknown after area kind size no_data = refl

-- the reply of what was done
same_reply : (done : Reply × State) (reply : Reply) (next : State) → done ≡ (reply, next) → done.0 ≡ reply
same_reply done reply next e = ap (λ (p : Reply × State). p.0) e

-- RECEIVE by its tests: from a mode in which the unit runs, or waits and can go on
pub record Receives (S : State) (unit : ℕ) (area : List ℕ) (kind : Kind) (size : ℕ) (no_data : Bool) (reply : Reply) : Type 0 where
  pub goes_on : ((no_data || is_none (designated S.net.tree area)) || is_ready S unit area) ≡ true
  pub is : reply ≡ (receive_in S unit area kind size).0

pub record HasToWait (S : State) (unit : ℕ) (area : List ℕ) (no_data : Bool) (reply : Reply) : Type 0 where
  pub runs : is_running (unit_mode S unit) ≡ true
  pub lacks : ((no_data || is_none (designated S.net.tree area)) || is_ready S unit area) ≡ false
  pub is : reply ≡ Waits

or_true : (b : Bool) → (b || true) ≡ true
or_true true = refl
or_true false = refl

receive_cases : (S : State) (unit : ℕ) (area : List ℕ) (kind : Kind) (size : ℕ) (no_data : Bool) (reply : Reply) (next : State) → unit_step S unit (made.Receive area kind size no_data) ≡ Some (reply, next)
    → Receives S unit area kind size no_data reply ⊎ HasToWait S unit area no_data reply
receive_cases S unit area kind size no_data reply next h = elim (cases_Bool (may_do_verb S unit)) [
  | inl may ↦ stepped (rw (may, unit_step) at h)
  | inr done ↦ absurd (none-some (reply, next) (rw (done, unit_step) at h))
]
  where
    stepped : step_receive S unit area kind size no_data ≡ Some (reply, next) → Receives S unit area kind size no_data reply ⊎ HasToWait S unit area no_data reply
    stepped r = elim (cases_Bool (is_running (unit_mode S unit))) [
      | inl runs ↦
          let ran : receive_running S unit area kind size no_data ≡ (reply, next) = same_Some _ _ (rw (runs, step_receive) at r) in
          elim (cases_Bool ((no_data || is_none (designated S.net.tree area)) || is_ready S unit area)) [
            | inl now ↦
                let done : with_reply unit (receive_in S unit area kind size) ≡ (reply, next) = rw (now, receive_running) at ran in
                inl record { goes_on = now; is = sym (same_reply (with_reply unit (receive_in S unit area kind size)) reply next done) }
            | inr later ↦
                let waits : ◌≡◌ {A = Reply × State} (Waits, with_unit_mode unit (WaitingFor area kind size) S) (reply, next) = rw (later, receive_running) at ran in
                inr record { runs = runs; lacks = later; is = sym (ap (λ (p : Reply × State). p.0) waits) }
          ]
      | inr other ↦
          let resumed = rw (other, step_receive) at r in
          let test = is_waiting_for (unit_mode S unit) area kind size no_data && is_ready S unit area in
          let ready : is_ready S unit area ≡ true = (and_parts (is_waiting_for (unit_mode S unit) area kind size no_data) (is_ready S unit area) (next_if-true test (with_reply unit (receive_in S unit area kind size)) (reply, next) resumed)).1 in
          inl record {
            goes_on = ap (λ b. (no_data || is_none (designated S.net.tree area)) || b) ready ∙ or_true (no_data || is_none (designated S.net.tree area));
            is = sym (same_reply (with_reply unit (receive_in S unit area kind size)) reply next (next_if-Some test _ _ resumed));
          }
    ]

neither : (a b c : Bool) → ((a || b) || c) ≡ false → (a ≡ false) × (b ≡ false) × (c ≡ false)
neither false false false h = (refl, refl, refl)
neither false false true h = absurd (false≢true (sym h))
neither false true c h = absurd (false≢true (sym h))
neither true b c h = absurd (false≢true (sym h))

-- WAITS comes only to a unit that runs, without NO DATA, from a known node with nothing to go on with
pub waits_only : (S : State) (name : List ℕ) (unit : ℕ) (area : List ℕ) (kind : Kind) (size : ℕ) (no_data : Bool) (next : State) → unit_number S.net name ≡ Some unit → step S (party.Unit name) (made.Receive area kind size no_data) ≡ Some (Waits, next)
    → (is_running (unit_mode S unit) ≡ true) × (no_data ≡ false) × (is_none (designated S.net.tree area) ≡ false) × (is_ready S unit area ≡ false)
waits_only S name unit area kind size no_data next found h = elim (receive_cases S unit area kind size no_data Waits next (unit_of_step S name unit (made.Receive area kind size no_data) Waits next found h)) [
  | inl goes ↦
      let got = receive S.net.tree S.incoming unit area kind size in
      absurd (false≢true (sym (taken_waits got.0 got.1) ∙ sym (ap is_waits goes.is)))
  | inr has ↦
      let all = neither no_data (is_none (designated S.net.tree area)) (is_ready S unit area) has.lacks in
      (has.runs, all.0, all.1, all.2)
]

-- where there is something to go on with, or no such node, the reply is not that there is no data
has_some : (S : State) (unit : ℕ) (area : List ℕ) (kind : Kind) (size : ℕ) → (is_none (designated S.net.tree area) || is_ready S unit area) ≡ true → is_no_data (receive_in S unit area kind size).0 ≡ false
has_some S unit area kind size h = by_node (designated S.net.tree area) h
  where
    by_next : (node : Node) → is_some (next_rest S.net.tree S.incoming unit node) ≡ true
        → is_no_data (reply_of (receive_at S.net.tree S.incoming unit area kind size (Some node)).0 (receive_at S.net.tree S.incoming unit area kind size (Some node)).1) ≡ false
    by_next node some = elim (option_cases (next_rest S.net.tree S.incoming unit node)) [
      | inl none ↦ absurd (false≢true (rw none at some))
      | inr next ↦ rw next.1 refl
    ]

    by_node : (node : Option Node) → (is_none node || is_some (option_and_then (next_rest S.net.tree S.incoming unit) node)) ≡ true
        → is_no_data (reply_of (receive_at S.net.tree S.incoming unit area kind size node).0 (receive_at S.net.tree S.incoming unit area kind size node).1) ≡ false
    by_node None some = refl
    by_node (Some node) some = by_next node some

-- NONE comes only with NO DATA
pub no_data_only : (S : State) (name : List ℕ) (unit : ℕ) (area after : List ℕ) (kind : Kind) (size : ℕ) (no_data : Bool) (next : State) → unit_number S.net name ≡ Some unit → step S (party.Unit name) (made.Receive area kind size no_data) ≡ Some (NoData after, next)
    → no_data ≡ true
no_data_only S name unit area after kind size true next found h = refl
no_data_only S name unit area after kind size false next found h = elim (receive_cases S unit area kind size false (NoData after) next (unit_of_step S name unit (made.Receive area kind size false) (NoData after) next found h)) [
  | inl goes ↦ absurd (false≢true (sym (has_some S unit area kind size goes.goes_on) ∙ sym (ap is_no_data goes.is)))
  | inr has ↦ absurd (false≢true (sym (ap is_no_data has.is)))
]

-- START hands over names exactly where there is a schedule
named : (S : State) (unit : ℕ) (schedule : Option Node) (reply : Reply) (next : State) → start S unit schedule ≡ Some (reply, next) → has_names reply ≡ is_some schedule
named S unit None reply next h = sym (ap has_names (same_reply _ reply next (same_Some (Started None, with_unit_mode unit Running S) (reply, next) h)))
named S unit (Some node) reply next h = elim (option_cases (chosen_leaf S.net.tree S.incoming.waiting node)) [
  | inl none ↦ absurd (none-some (reply, next) (rw none at h))
  | inr some ↦
      let told = Started (Some (path_fields (path_of_leaf S.net.tree some.0))) in
      let done : Some (told, with_unit_mode unit Running S) ≡ Some (reply, next) = rw some.1 at h in
      sym (ap has_names (same_reply _ reply next (same_Some (told, with_unit_mode unit Running S) (reply, next) done)))
]

pub names_only : (S : State) (name : List ℕ) (unit : ℕ) (names : Option (List ℕ)) (next : State) → unit_number S.net name ≡ Some unit → step S (party.Unit name) made.Start ≡ Some (Started names, next) → is_some names ≡ is_some (schedule_of S.net unit)
names_only S name unit names next found h =
    let stepped = unit_of_step S name unit made.Start (Started names) next found h in
    elim (cases_Bool (is_dormant (unit_mode S unit))) [
      | inl sleeps ↦ named S unit (schedule_of S.net unit) (Started names) next (rw (sleeps, unit_step) at stepped)
      | inr other ↦ absurd (none-some (Started names, next) (rw (other, unit_step) at stepped))
    ]

-- each call is answered by its own kind of reply
by_kind : (call : Call) (done : Reply × State) (reply : Reply) (next : State) → done ≡ (reply, next) → is_of_kind call done.0 ≡ true → is_of_kind call reply ≡ true
by_kind call done reply next e h = ap (is_of_kind call) (sym (same_reply done reply next e)) ∙ h

by_verb : (S : State) (unit : ℕ) (call : Call) (done : Reply × State) (reply : Reply) (next : State) → verb S unit done ≡ Some (reply, next) → is_of_kind call done.0 ≡ true → is_of_kind call reply ≡ true
by_verb S unit call done reply next h is = by_kind call (with_reply unit done) reply next (next_if-Some (is_running (unit_mode S unit) && may_do_verb S unit) _ _ h) is

start_kind : (S : State) (unit : ℕ) (schedule : Option Node) (reply : Reply) (next : State) → start S unit schedule ≡ Some (reply, next) → is_of_kind made.Start reply ≡ true
start_kind S unit None reply next h = by_kind made.Start (Started None, with_unit_mode unit Running S) reply next (same_Some _ _ h) refl
start_kind S unit (Some node) reply next h = elim (option_cases (chosen_leaf S.net.tree S.incoming.waiting node)) [
  | inl none ↦ absurd (none-some (reply, next) (rw none at h))
  | inr some ↦
      let told = Started (Some (path_fields (path_of_leaf S.net.tree some.0))) in
      let done : Some (told, with_unit_mode unit Running S) ≡ Some (reply, next) = rw some.1 at h in
      by_kind made.Start (told, with_unit_mode unit Running S) reply next (same_Some _ _ done) refl
]

abbrev is_area_in : Reply → Bool
is_area_in (AreaIn after) = true
is_area_in _ = false

area_in_kind : (on terminal : Bool) (area key : List ℕ) (reply : Reply) → is_area_in reply ≡ true → is_of_kind (made.SwitchInput on terminal area key) reply ≡ true
area_in_kind on terminal area key (AreaIn after) h = refl
area_in_kind on terminal area key (Started names) h = absurd (false≢true h)
area_in_kind on terminal area key (Given after text) h = absurd (false≢true h)
area_in_kind on terminal area key (NoData after) h = absurd (false≢true h)
area_in_kind on terminal area key (Refused after) h = absurd (false≢true h)
area_in_kind on terminal area key Waits h = absurd (false≢true h)
area_in_kind on terminal area key (AreaOut after) h = absurd (false≢true h)
area_in_kind on terminal area key (Arrived number) h = absurd (false≢true h)
area_in_kind on terminal area key Done h = absurd (false≢true h)

leaves_in : (S : State) (on : Bool) (area key : List ℕ) (node : Node) → is_area_in (switch_leaves S on area key node).0 ≡ true
leaves_in S on area key node = elim (cases_Bool (is_key key (slice_get S.net.queue_passwords (top_of S.net.tree node)))) [
  | inl is ↦ rw (is, switch_leaves) refl
  | inr other ↦ rw (other, switch_leaves) refl
]

terminal_in : (S : State) (on : Bool) (area key : List ℕ) (terminal : ℕ) → is_area_in (switch_terminal S on area key terminal).0 ≡ true
terminal_in S on area key terminal = elim (cases_Bool (is_key key (option_map (λ (t : Terminal). t.password) (slice_get S.net.terminals terminal)))) [
  | inl is ↦ rw (is, switch_terminal) refl
  | inr other ↦ rw (other, switch_terminal) refl
]

switched_in : (S : State) (on terminal : Bool) (area key : List ℕ) → is_area_in (switch_input S on terminal area key).0 ≡ true
switched_in S on false area key = elim (option_cases (designated S.net.tree area)) [
  | inl none ↦ rw (none, switch_input) refl
  | inr some ↦ rw (some.1, switch_input) (leaves_in S on area key some.0)
]
switched_in S on true area key = elim (option_cases (destination_with (destinations_of S.net) (in_field field.Source area))) [
  | inl none ↦ rw (none, switch_input) refl
  | inr some ↦ rw (some.1, switch_input) (terminal_in S on area key some.0)
]

unit_kind : (S : State) (unit : ℕ) (call : Call) (reply : Reply) (next : State) → unit_step S unit call ≡ Some (reply, next) → is_of_kind call reply ≡ true
unit_kind S unit made.Start reply next h = elim (cases_Bool (is_dormant (unit_mode S unit))) [
  | inl sleeps ↦ start_kind S unit (schedule_of S.net unit) reply next (rw (sleeps, unit_step) at h)
  | inr other ↦ absurd (none-some (reply, next) (rw (other, unit_step) at h))
]
unit_kind S unit (made.Receive area kind size no_data) reply next h = elim (receive_cases S unit area kind size no_data reply next h) [
  | inl goes ↦
      let got = receive S.net.tree S.incoming unit area kind size in
      ap (is_of_kind (made.Receive area kind size no_data)) goes.is ∙ taken_kind got.0 got.1 area kind size no_data
  | inr has ↦ ap (is_of_kind (made.Receive area kind size no_data)) has.is
]
unit_kind S unit (made.Count area) reply next h = by_verb S unit (made.Count area) (AreaIn (count S.net.tree S.incoming area), S) reply next h refl
unit_kind S unit (made.Send area part item) reply next h = by_verb S unit (made.Send area part item) (send_in S unit area part item) reply next h refl
unit_kind S unit (made.SwitchInput on terminal area key) reply next h =
    by_verb S unit (made.SwitchInput on terminal area key) (switch_input S on terminal area key) reply next h (area_in_kind on terminal area key (switch_input S on terminal area key).0 (switched_in S on terminal area key))
unit_kind S unit (made.SwitchOutput on area key) reply next h = by_verb S unit (made.SwitchOutput on area key) (switch_output_in S on area key) reply next h refl
unit_kind S unit (made.Stop reason) reply next h = by_kind (made.Stop reason) (Done, stop_unit S unit) reply next (next_if-Some (may_stop S unit reason) _ _ h) refl
unit_kind S unit (made.Arrive stamp message) reply next h = absurd (none-some (reply, next) h)
unit_kind S unit made.Held reply next h = absurd (none-some (reply, next) h)
unit_kind S unit (made.Finish reason) reply next h = absurd (none-some (reply, next) h)

terminal_kind : (S : State) (terminal : ℕ) (name : List ℕ) (call : Call) (reply : Reply) (next : State) → terminal_step S terminal name call ≡ Some (reply, next) → is_of_kind call reply ≡ true
terminal_kind S terminal name (made.Arrive stamp message) reply next h = elim (option_cases (feed_of S.net terminal)) [
  | inl none ↦ absurd (none-some (reply, next) (rw (none, terminal_step) at h))
  | inr some ↦ by_kind (made.Arrive stamp message) (arrive S terminal name stamp message some.0) reply next (next_if-Some _ _ _ (rw (some.1, terminal_step) at h)) refl
]
terminal_kind S terminal name made.Held reply next h = by_kind made.Held (Done, with_terminal_mode terminal Holding S) reply next (next_if-Some _ _ _ h) refl
terminal_kind S terminal name (made.Finish reason) reply next h = by_kind (made.Finish reason) (Done, with_terminal_mode terminal Ended S) reply next (next_if-Some (may_finish S terminal reason) _ _ h) refl
terminal_kind S terminal name made.Start reply next h = absurd (none-some (reply, next) h)
terminal_kind S terminal name (made.Receive area kind size no_data) reply next h = absurd (none-some (reply, next) h)
terminal_kind S terminal name (made.Count area) reply next h = absurd (none-some (reply, next) h)
terminal_kind S terminal name (made.Send area part item) reply next h = absurd (none-some (reply, next) h)
terminal_kind S terminal name (made.SwitchInput on is_terminal area key) reply next h = absurd (none-some (reply, next) h)
terminal_kind S terminal name (made.SwitchOutput on area key) reply next h = absurd (none-some (reply, next) h)
terminal_kind S terminal name (made.Stop reason) reply next h = absurd (none-some (reply, next) h)

pub own_kind : (S : State) (who : Party) (call : Call) (reply : Reply) (next : State) → step S who call ≡ Some (reply, next) → is_of_kind call reply ≡ true
own_kind S (party.Unit name) call reply next h = let its = step_of_unit S name call reply next h in unit_kind S its.0 call reply next its.2
own_kind S (party.Terminal name) call reply next h = let its = step_of_terminal S name call reply next h in terminal_kind S its.0 name call reply next its.2

-- a unit makes the calls of units, and a terminal the others
unit_sort : (S : State) (unit : ℕ) (call : Call) (reply : Reply) (next : State) → unit_step S unit call ≡ Some (reply, next) → IsUnitCall call
unit_sort S unit made.Start reply next h = tt
unit_sort S unit (made.Receive area kind size no_data) reply next h = tt
unit_sort S unit (made.Count area) reply next h = tt
unit_sort S unit (made.Send area part item) reply next h = tt
unit_sort S unit (made.SwitchInput on terminal area key) reply next h = tt
unit_sort S unit (made.SwitchOutput on area key) reply next h = tt
unit_sort S unit (made.Stop reason) reply next h = tt
unit_sort S unit (made.Arrive stamp message) reply next h = none-some (reply, next) h
unit_sort S unit made.Held reply next h = none-some (reply, next) h
unit_sort S unit (made.Finish reason) reply next h = none-some (reply, next) h

terminal_sort : (S : State) (terminal : ℕ) (name : List ℕ) (call : Call) (reply : Reply) (next : State) → terminal_step S terminal name call ≡ Some (reply, next) → IsUnitCall call → ⊥
terminal_sort S terminal name (made.Arrive stamp message) reply next h unit = unit
terminal_sort S terminal name made.Held reply next h unit = unit
terminal_sort S terminal name (made.Finish reason) reply next h unit = unit
terminal_sort S terminal name made.Start reply next h unit = none-some (reply, next) h
terminal_sort S terminal name (made.Receive area kind size no_data) reply next h unit = none-some (reply, next) h
terminal_sort S terminal name (made.Count area) reply next h unit = none-some (reply, next) h
terminal_sort S terminal name (made.Send area part item) reply next h unit = none-some (reply, next) h
terminal_sort S terminal name (made.SwitchInput on is_terminal area key) reply next h unit = none-some (reply, next) h
terminal_sort S terminal name (made.SwitchOutput on area key) reply next h unit = none-some (reply, next) h
terminal_sort S terminal name (made.Stop reason) reply next h unit = none-some (reply, next) h

pub unit_makes : (S : State) (name : List ℕ) (call : Call) (reply : Reply) (next : State) → step S (party.Unit name) call ≡ Some (reply, next) → IsUnitCall call
unit_makes S name call reply next h = let its = step_of_unit S name call reply next h in unit_sort S its.0 call reply next its.2

pub terminal_makes : (S : State) (name : List ℕ) (call : Call) (reply : Reply) (next : State) → step S (party.Terminal name) call ≡ Some (reply, next) → IsUnitCall call → ⊥
terminal_makes S name call reply next h = let its = step_of_terminal S name call reply next h in terminal_sort S its.0 name call reply next its.2

-- a call leaves the modes and counts of the other parties
pub units_stay : (S next : State) (name : List ℕ) (unit other : ℕ) (call : Call) (reply : Reply) → unit_number S.net name ≡ Some unit → other ≢ unit → step S (party.Unit name) call ≡ Some (reply, next)
    → (slice_get next.units other ≡ slice_get S.units other) × (next.terminals ≡ S.terminals)
units_stay S next name unit other call reply found ne h =
    let done = unit_done S unit call reply next (unit_of_step S name unit call reply next found h) in
    (ap (λ units. slice_get units other) done.units ∙ at_elsewhere S.units unit other (λ (u : UnitState). after_unit_call u call reply) ne, done.terminals)

pub terminals_stay : (S next : State) (name : List ℕ) (terminal other : ℕ) (call : Call) (reply : Reply) → terminal_number S.net name ≡ Some terminal → other ≢ terminal → step S (party.Terminal name) call ≡ Some (reply, next)
    → (slice_get next.terminals other ≡ slice_get S.terminals other) × (next.units ≡ S.units)
terminals_stay S next name terminal other call reply found ne h =
    let its = step_of_terminal S name call reply next h in
    let done = terminal_done S its.0 name call reply next its.2 in
    let same : its.0 ≡ terminal = same_Some its.0 terminal (sym its.1 ∙ found) in
    (ap (λ terminals. slice_get terminals other) (done.terminals ∙ ap (λ n. at_place S.terminals n (λ (t : TerminalState). after_terminal_call t call)) same) ∙ at_elsewhere S.terminals terminal other (λ (t : TerminalState). after_terminal_call t call) ne, done.units)
