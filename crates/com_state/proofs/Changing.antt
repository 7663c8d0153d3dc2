-- What each step changes of the messages.
use Rattle.std.proofs.Common.{◌≡◌, ℕ, ◌+◌, true, ◌&&◌, Some, None, Option, List, [], ◌∷◌, refl, sym, ap, ◌∙◌, inl, inr, subst}
use Rattle.std.specs.Prelude.{option_map, option_and_then}
use Rattle.std.specs.Option.{option_to_list}
use Rattle.std.proofs.lemmas.Bool.{cases_Bool, and_parts, false≢true}
use Rattle.std.proofs.lemmas.Option.{none-some, same_Some}
use Rattle.com_msg.specs.Stamp.{Moment}
use Rattle.com_msg.specs.declared.message.RawMessage.{RawMessage}
use Rattle.com_tree.specs.declared.tree.Node.{Node}
use Rattle.com_net.specs.declared.net.Feed.{Feed}
use Rattle.com_events.specs.declared.call.Party.{Party}
use Rattle.com_events.specs.declared.call.Party.TheVariants as party
use Rattle.com_events.specs.declared.call.StopReason.{StopReason}
use Rattle.com_events.specs.declared.call.StopReason.TheVariants as stop
use Rattle.com_events.specs.declared.call.Call.{Call}
use Rattle.com_events.specs.declared.call.Call.TheVariants as made
use Rattle.com_events.specs.declared.reply.Reply.{Reply}
use Rattle.com_events.specs.declared.reply.Reply.TheVariants.{Started, AreaIn, Arrived, Done}
use Rattle.com_net.specs.Numbers.{unit_number, terminal_number}
use Rattle.com_state.specs.Wholeness.{Arrival, arrived_by, handed_by}
use Rattle.com_state.proofs.Frames.{option_cases, next_if-Some}
use Rattle.com_state.proofs.Stays.{stay_same, stay_unit_mode, stay_terminal_mode, stay_arrival, mode_set}
use Rattle.com_state.proofs.Aside.{SameInput, same_input, aside_answered, aside_switch_input}
use Rattle.com_state.proofs.Changes.{Changed, comes, stops, unchanged, store_unit_mode, store_terminal_mode, store_arrival}
use Rattle.com_state.proofs.Receives.{UnitChanged, next_if-true, runs_on, counted, by_reply, changed_step_receive}
use Rattle.com_state.specs.State.{State, destinations_of, unit_mode}
use Rattle.com_state.specs.declared.parties.UnitMode.{UnitMode}
use Rattle.com_state.specs.declared.parties.UnitMode.TheVariants.{Running, Stopped}
use Rattle.com_state.specs.declared.parties.TerminalMode.TheVariants.{Holding, Ended}
use Rattle.com_state.specs.Switches.{switch_input}
use Rattle.com_state.specs.Steps.{is_dormant, is_running, with_unit_mode, with_terminal_mode, may_do_verb, with_reply, feed_of, schedule_of, start, is_idle, stop_unit, waits_or_sleeps, may_stop, arrived_message, arrive, verb, unit_step, terminal_step, step}
use Rattle.com_recv.specs.Incoming.{chosen_leaf, without_unit}
use Rattle.com_recv.specs.Receiving.{count}
use Rattle.com_recv.specs.Areas.{path_of_leaf}
use Rattle.com_state.proofs.Verbs.{send_in, switch_output_in}
use Rattle.com_cd.specs.Designation.{path_fields}
use Rattle.com_send.specs.Outgoing.{drop_unit}
use Rattle.com_send.specs.Sending.{send}
use Rattle.com_send.specs.Switching.{switch_output}
use Rattle.com_state.proofs.StepCases.{step_of_unit, step_of_terminal}

-- a call beside the input changes nothing of it
aside_changed : (S next : State) → SameInput S next → Changed S next [] None
aside_changed S next same = unchanged S next record { net = same.net; incoming = same.incoming; arrivals = same.arrivals } (stay_same S next same.units)

-- a verb that hands nothing out
changed_verb : (S : State) (name : List ℕ) (unit : ℕ) (call : Call) (done : Reply × State) (reply : Reply) (next : State) → verb S unit done ≡ Some (reply, next)
    → done.1.units ≡ S.units → UnitChanged S name call done → UnitChanged S name call (reply, next)
changed_verb S name unit call done reply next h same first =
    let test = is_running (unit_mode S unit) && may_do_verb S unit in
    let runs = (and_parts (is_running (unit_mode S unit)) (may_do_verb S unit) (next_if-true test (with_reply unit done) (reply, next) h)).0 in
    by_reply S name call (with_reply unit done) reply next (next_if-Some test _ _ h) (counted S name unit call done same (runs_on (unit_mode S unit) runs) first)

-- a unit that has not started has not stopped
starts : (mode : Option UnitMode) → is_dormant mode ≡ true → mode ≡ Some Stopped → ⊥
starts mode sleeps h = false≢true (sym (ap is_dormant h) ∙ sleeps)

-- START changes no message
changed_start : (S : State) (name : List ℕ) (unit : ℕ) (schedule : Option Node) (reply : Reply) (next : State) → (unit_mode S unit ≡ Some Stopped → ⊥) → start S unit schedule ≡ Some (reply, next)
    → UnitChanged S name made.Start (reply, next)
changed_start S name unit None reply next runs h =
    by_reply S name made.Start _ reply next (same_Some _ _ h) (unchanged S (with_unit_mode unit Running S) (store_unit_mode unit Running S) (stay_unit_mode unit Running S runs))
changed_start S name unit (Some node) reply next runs h = elim (option_cases (chosen_leaf S.net.tree S.incoming.waiting node)) [
  | inl none ↦ absurd (none-some (reply, next) (rw none at h))
  | inr some ↦
      let done : Some (Started (Some (path_fields (path_of_leaf S.net.tree some.0))), with_unit_mode unit Running S) ≡ Some (reply, next) = rw some.1 at h in
      by_reply S name made.Start _ reply next (same_Some _ _ done) (unchanged S (with_unit_mode unit Running S) (store_unit_mode unit Running S) (stay_unit_mode unit Running S runs))
]

-- a unit that there is, and that has not stopped
abbrev IsThere : Option UnitMode → Type 0
IsThere mode = (m : UnitMode) × (mode ≡ Some m) × (mode ≡ Some Stopped → ⊥)

-- a unit that runs
running_there : (mode : Option UnitMode) → is_running mode ≡ true → IsThere mode
running_there None h = absurd (false≢true h)
running_there (Some m) h = (m, refl, runs_on (Some m) h)

-- a unit that waits or sleeps
idle_there : (mode : Option UnitMode) → waits_or_sleeps mode ≡ true → IsThere mode
idle_there None h = absurd (false≢true h)
idle_there (Some m) h = (m, refl, λ e. false≢true (sym (ap waits_or_sleeps e) ∙ h))

-- a unit that may stop
stop_there : (S : State) (unit : ℕ) (reason : StopReason) → may_stop S unit reason ≡ true → IsThere (unit_mode S unit)
stop_there S unit stop.Run h = running_there (unit_mode S unit) h
stop_there S unit stop.Limit h = running_there (unit_mode S unit) h
stop_there S unit stop.DataFault h = running_there (unit_mode S unit) h
stop_there S unit stop.Idle h = idle_there (unit_mode S unit) (and_parts (is_idle S) (waits_or_sleeps (unit_mode S unit)) h).1

-- STOP
changed_stop : (S : State) (unit : ℕ) → IsThere (unit_mode S unit) → Changed S (stop_unit S unit) [] None
changed_stop S unit there =
    let mid : State = record S { incoming = record S.incoming { held = without_unit unit S.incoming.held }; outgoing = drop_unit unit S.outgoing } in
    let same = store_unit_mode unit Stopped mid in
    record {
      net = same.net;
      stay = stay_unit_mode unit Stopped mid there.2;
      change = stops refl refl record {
        unit = unit;
        has_stopped = mode_set unit Stopped there.0 mid there.1;
        waiting = ap (λ incoming. incoming.waiting) same.incoming;
        held = ap (λ incoming. incoming.held) same.incoming;
        arrivals = same.arrivals;
      };
    }

-- the calls of units
changed_unit : (S : State) (name : List ℕ) (unit : ℕ) (call : Call) (reply : Reply) (next : State) → unit_number S.net name ≡ Some unit → unit_step S unit call ≡ Some (reply, next) → UnitChanged S name call (reply, next)
changed_unit S name unit made.Start reply next number h = elim (cases_Bool (is_dormant (unit_mode S unit))) [
  | inl sleeps ↦ changed_start S name unit (schedule_of S.net unit) reply next (starts (unit_mode S unit) sleeps) (rw (sleeps, unit_step) at h)
  | inr other ↦ absurd (none-some (reply, next) (rw (other, unit_step) at h))
]
changed_unit S name unit (made.Receive area kind size no_data) reply next number h = elim (cases_Bool (may_do_verb S unit)) [
  | inl may ↦ changed_step_receive S name unit area kind size no_data reply next number (rw (may, unit_step) at h)
  | inr done ↦ absurd (none-some (reply, next) (rw (done, unit_step) at h))
]
changed_unit S name unit (made.Count area) reply next number h =
    changed_verb S name unit (made.Count area) (AreaIn (count S.net.tree S.incoming area), S) reply next h refl (aside_changed S S (same_input S))
changed_unit S name unit (made.Send area part item) reply next number h =
    let same = aside_answered S (send (destinations_of S.net) S.outgoing unit area part item) in
    changed_verb S name unit (made.Send area part item) (send_in S unit area part item) reply next h same.units (aside_changed S (send_in S unit area part item).1 same)
changed_unit S name unit (made.SwitchInput on terminal area key) reply next number h =
    let same = aside_switch_input S on terminal area key in
    changed_verb S name unit (made.SwitchInput on terminal area key) (switch_input S on terminal area key) reply next h same.units (aside_changed S (switch_input S on terminal area key).1 same)
changed_unit S name unit (made.SwitchOutput on area key) reply next number h =
    let same = aside_answered S (switch_output (destinations_of S.net) S.outgoing on area key) in
    changed_verb S name unit (made.SwitchOutput on area key) (switch_output_in S on area key) reply next h same.units (aside_changed S (switch_output_in S on area key).1 same)
changed_unit S name unit (made.Stop reason) reply next number h =
    let may = next_if-true (may_stop S unit reason) (Done, stop_unit S unit) (reply, next) h in
    by_reply S name (made.Stop reason) (Done, stop_unit S unit) reply next (next_if-Some (may_stop S unit reason) _ _ h) (changed_stop S unit (stop_there S unit reason may))
changed_unit S name unit (made.Arrive stamp message) reply next number h = absurd (none-some (reply, next) h)
changed_unit S name unit made.Held reply next number h = absurd (none-some (reply, next) h)
changed_unit S name unit (made.Finish reason) reply next number h = absurd (none-some (reply, next) h)

-- what a terminal's call changes, by the state after it
abbrev TerminalChanged : State → List ℕ → Call → Reply × State → Type 0
TerminalChanged S name call done = Changed S done.1 (arrived_by S (party.Terminal name) call done.0) None

-- the same for a reply and a state by their names
by_state : (S : State) (name : List ℕ) (call : Call) (done : Reply × State) (reply : Reply) (next : State) → done ≡ (reply, next) → TerminalChanged S name call done → TerminalChanged S name call (reply, next)
by_state S name call done reply next e h = subst (TerminalChanged S name call) e h

-- where a message comes in, it arrives
brought_there : (S : State) (name : List ℕ) (terminal number : ℕ) (stamp : Moment) (message : RawMessage) (feed : Feed) → terminal_number S.net name ≡ Some terminal → feed_of S.net terminal ≡ Some feed
    → arrived_by S (party.Terminal name) (made.Arrive stamp message) (Arrived number) ≡ record { number = number; leaf = feed.leaf.number; message = message } ∷ []
brought_there S name terminal number stamp message feed known fed =
    let arrival : Feed → Arrival = λ feed. record { number = number; leaf = feed.leaf.number; message = message } in
    ap (λ found. option_to_list (option_map arrival (option_and_then (feed_of S.net) found))) known ∙ ap (λ fed. option_to_list (option_map arrival fed)) fed

-- ARRIVE
changed_arrive : (S : State) (name : List ℕ) (terminal : ℕ) (stamp : Moment) (message : RawMessage) (feed : Feed) → terminal_number S.net name ≡ Some terminal → feed_of S.net terminal ≡ Some feed
    → TerminalChanged S name (made.Arrive stamp message) (arrive S terminal name stamp message feed)
changed_arrive S name terminal stamp message feed number fed =
    let done = (arrive S terminal name stamp message feed).1 in
    let same = store_arrival terminal _ in
    record {
      net = same.net;
      stay = stay_arrival terminal _;
      change = comes record {
        here = record { leaf = feed.leaf; message = arrived_message S terminal stamp message name };
        message = message;
        brought = brought_there S name terminal (S.arrivals + 1) stamp message feed number fed;
        number = refl;
        segments = refl;
        waiting = ap (λ incoming. incoming.waiting) same.incoming;
        held = ap (λ incoming. incoming.held) same.incoming;
        arrivals = same.arrivals;
      } refl;
    }

-- the calls of terminals
changed_terminal : (S : State) (name : List ℕ) (terminal : ℕ) (call : Call) (reply : Reply) (next : State) → terminal_number S.net name ≡ Some terminal → terminal_step S terminal name call ≡ Some (reply, next)
    → TerminalChanged S name call (reply, next)
changed_terminal S name terminal (made.Arrive stamp message) reply next number h = elim (option_cases (feed_of S.net terminal)) [
  | inl none ↦ absurd (none-some (reply, next) (rw (none, terminal_step) at h))
  | inr some ↦
      let come = rw (some.1, terminal_step) at h in
      by_state S name (made.Arrive stamp message) (arrive S terminal name stamp message some.0) reply next (next_if-Some _ _ _ come) (changed_arrive S name terminal stamp message some.0 number some.1)
]
changed_terminal S name terminal made.Held reply next number h =
    by_state S name made.Held _ reply next (next_if-Some _ _ _ h) (unchanged S (with_terminal_mode terminal Holding S) (store_terminal_mode terminal Holding S) (stay_terminal_mode terminal Holding S))
changed_terminal S name terminal (made.Finish reason) reply next number h =
    by_state S name (made.Finish reason) _ reply next (next_if-Some _ _ _ h) (unchanged S (with_terminal_mode terminal Ended S) (store_terminal_mode terminal Ended S) (stay_terminal_mode terminal Ended S))
changed_terminal S name terminal made.Start reply next number h = absurd (none-some (reply, next) h)
changed_terminal S name terminal (made.Receive area kind size no_data) reply next number h = absurd (none-some (reply, next) h)
changed_terminal S name terminal (made.Count area) reply next number h = absurd (none-some (reply, next) h)
changed_terminal S name terminal (made.Send area part item) reply next number h = absurd (none-some (reply, next) h)
changed_terminal S name terminal (made.SwitchInput on is_terminal area key) reply next number h = absurd (none-some (reply, next) h)
changed_terminal S name terminal (made.SwitchOutput on area key) reply next number h = absurd (none-some (reply, next) h)
changed_terminal S name terminal (made.Stop reason) reply next number h = absurd (none-some (reply, next) h)

-- every step changes no more than one of these
pub changed : (S : State) (who : Party) (call : Call) (reply : Reply) (next : State) → step S who call ≡ Some (reply, next) → Changed S next (arrived_by S who call reply) (handed_by S who call reply)
changed S (party.Unit name) call reply next h =
    let its = step_of_unit S name call reply next h in
    changed_unit S name its.0 call reply next its.1 its.2
changed S (party.Terminal name) call reply next h =
    let its = step_of_terminal S name call reply next h in
    changed_terminal S name its.0 call reply next its.1 its.2
