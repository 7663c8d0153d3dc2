-- What each step keeps.
use Rattle.std.proofs.Common.{◌≡◌, ℕ, Bool, ◌&&◌, Some, None, Option, List, refl, inl, inr, subst}
use Rattle.std.specs.Prelude.{◌||◌, is_none}
use Rattle.std.proofs.lemmas.Bool.{cases_Bool}
use Rattle.std.proofs.lemmas.Option.{none-some, same_Some}
use Rattle.com_msg.specs.Stamp.{Moment}
use Rattle.com_msg.specs.declared.message.RawMessage.{RawMessage}
use Rattle.com_msg.specs.declared.rest.Kind.{Kind}
use Rattle.com_tree.specs.declared.tree.Node.{Node}
use Rattle.com_net.specs.declared.net.Feed.{Feed}
use Rattle.com_events.specs.declared.call.Party.{Party}
use Rattle.com_events.specs.declared.call.Party.TheVariants as party
use Rattle.com_events.specs.declared.call.Call.{Call}
use Rattle.com_events.specs.declared.call.Call.TheVariants as made
use Rattle.com_events.specs.declared.reply.Reply.{Reply}
use Rattle.com_events.specs.declared.reply.Reply.TheVariants.{Started, AreaIn}
use Rattle.com_state.specs.Laws.{Keeps}
use Rattle.com_state.proofs.Frames.{option_cases, next_if-Some, same_queues, queues_unit_mode, queues_terminal_mode, queues_verb, queues_arrival}
use Rattle.com_state.proofs.Kept.{kept_same, kept_chain, kept_receive, kept_send, kept_leaf_flags, kept_switch_output, unchanged_queues, still_dropped, switched_outgoing}
use Rattle.com_state.specs.State.{State, unit_mode}
use Rattle.com_state.specs.declared.parties.UnitMode.TheVariants.{Running, WaitingFor, Stopped}
use Rattle.com_state.specs.declared.parties.TerminalMode.TheVariants.{Holding, Ended}
use Rattle.com_state.specs.Answers.{is_ready}
use Rattle.com_state.specs.Switches.{switch_input}
use Rattle.com_state.specs.Steps.{next_if, is_dormant, is_running, with_unit_mode, with_verb, may_do_verb, with_reply, feed_of, schedule_of, start, receive_running, is_waiting_for, step_receive, stop_unit, may_stop, arrive, verb, unit_step, terminal_step, step}
use Rattle.com_recv.specs.Incoming.{designated, chosen_leaf, without_unit}
use Rattle.com_recv.specs.Receiving.{count}
use Rattle.com_recv.specs.Areas.{path_of_leaf}
use Rattle.com_state.proofs.Verbs.{receive_in, send_in, switch_output_in}
use Rattle.com_cd.specs.Designation.{path_fields}
use Rattle.com_send.specs.Outgoing.{drop_unit}
use Rattle.com_state.proofs.Aside.{aside_switch_input}
use Rattle.com_state.proofs.StepCases.{step_of_unit, step_of_terminal}

-- where a step is this one, its state keeps what this one keeps
by_step : (S : State) (call : Call) (done : Reply × State) (reply : Reply) (next : State) → done ≡ (reply, next) → Keeps S call done.1 → Keeps S call next
by_step S call done reply next h kept = subst (λ (p : Reply × State). Keeps S call p.1) h kept

by_some : (S : State) (call : Call) (done : Reply × State) (reply : Reply) (next : State) → Some done ≡ Some (reply, next) → Keeps S call done.1 → Keeps S call next
by_some S call done reply next h kept = by_step S call done reply next (same_Some done (reply, next) h) kept

by_next : (S : State) (call : Call) (test : Bool) (done : Reply × State) (reply : Reply) (next : State) → next_if test done ≡ Some (reply, next) → Keeps S call done.1 → Keeps S call next
by_next S call test done reply next h kept = by_step S call done reply next (next_if-Some test done (reply, next) h) kept

-- a verb that is done keeps what its work keeps
kept_reply : (S : State) (call : Call) (unit : ℕ) (done : Reply × State) → Keeps S call done.1 → Keeps S call (with_reply unit done).1
kept_reply S call unit done kept = kept_chain S call done.1 (with_verb unit done.1) kept (kept_same done.1 call (with_verb unit done.1) (queues_verb unit done.1))

kept_start : (S : State) (unit : ℕ) (call : Call) (schedule : Option Node) (reply : Reply) (next : State) → start S unit schedule ≡ Some (reply, next) → Keeps S call next
kept_start S unit call None reply next h = by_some S call _ reply next h (kept_same S call (with_unit_mode unit Running S) (queues_unit_mode unit Running S))
kept_start S unit call (Some node) reply next h = elim (option_cases (chosen_leaf S.net.tree S.incoming.waiting node)) [
  | inl none ↦ absurd (none-some (reply, next) (rw none at h))
  | inr some ↦ by_some S call (Started (Some (path_fields (path_of_leaf S.net.tree some.0))), with_unit_mode unit Running S) reply next (rw some.1 at h) (kept_same S call (with_unit_mode unit Running S) (queues_unit_mode unit Running S))
]

kept_running : (S : State) (unit : ℕ) (area : List ℕ) (kind : Kind) (size : ℕ) (no_data : Bool) (call : Call) → Keeps S call (receive_running S unit area kind size no_data).1
kept_running S unit area kind size no_data call = elim (cases_Bool ((no_data || is_none (designated S.net.tree area)) || is_ready S unit area)) [
  | inl now ↦ rw (now, receive_running) (kept_reply S call unit (receive_in S unit area kind size) (kept_receive S unit area kind size call))
  | inr later ↦ rw (later, receive_running) (kept_same S call _ (queues_unit_mode unit (WaitingFor area kind size) S))
]

kept_step_receive : (S : State) (unit : ℕ) (area : List ℕ) (kind : Kind) (size : ℕ) (no_data : Bool) (call : Call) (reply : Reply) (next : State)
    → step_receive S unit area kind size no_data ≡ Some (reply, next) → Keeps S call next
kept_step_receive S unit area kind size no_data call reply next h = elim (cases_Bool (is_running (unit_mode S unit))) [
  | inl runs ↦ by_some S call (receive_running S unit area kind size no_data) reply next (rw (runs, step_receive) at h) (kept_running S unit area kind size no_data call)
  | inr waits ↦
      let resumed = rw (waits, step_receive) at h in
      by_next S call (is_waiting_for (unit_mode S unit) area kind size no_data && is_ready S unit area) (with_reply unit (receive_in S unit area kind size)) reply next resumed (kept_reply S call unit (receive_in S unit area kind size) (kept_receive S unit area kind size call))
]

kept_verb : (S : State) (unit : ℕ) (call : Call) (done : Reply × State) (reply : Reply) (next : State) → verb S unit done ≡ Some (reply, next) → Keeps S call done.1 → Keeps S call next
kept_verb S unit call done reply next h kept =
    by_next S call (is_running (unit_mode S unit) && may_do_verb S unit) (with_reply unit done) reply next h (kept_reply S call unit done kept)

kept_stop : (S : State) (unit : ℕ) (call : Call) → Keeps S call (stop_unit S unit)
kept_stop S unit call =
    let mid : State = record S { incoming = record S.incoming { held = without_unit unit S.incoming.held }; outgoing = drop_unit unit S.outgoing } in
    kept_chain S call mid (stop_unit S unit) (unchanged_queues S mid call refl refl (still_dropped unit S.outgoing)) (kept_same mid call (stop_unit S unit) (queues_unit_mode unit Stopped mid))

pub kept_unit : (S : State) (unit : ℕ) (call : Call) (reply : Reply) (next : State) → unit_step S unit call ≡ Some (reply, next) → Keeps S call next
kept_unit S unit made.Start reply next h = elim (cases_Bool (is_dormant (unit_mode S unit))) [
  | inl dormant ↦ kept_start S unit made.Start (schedule_of S.net unit) reply next (rw (dormant, unit_step) at h)
  | inr other ↦ absurd (none-some (reply, next) (rw (other, unit_step) at h))
]
kept_unit S unit (made.Receive area kind size no_data) reply next h = elim (cases_Bool (may_do_verb S unit)) [
  | inl may ↦ kept_step_receive S unit area kind size no_data (made.Receive area kind size no_data) reply next (rw (may, unit_step) at h)
  | inr done ↦ absurd (none-some (reply, next) (rw (done, unit_step) at h))
]
kept_unit S unit (made.Count area) reply next h = kept_verb S unit (made.Count area) (AreaIn (count S.net.tree S.incoming area), S) reply next h (kept_same S (made.Count area) S (same_queues S))
kept_unit S unit (made.Send area part item) reply next h = kept_verb S unit (made.Send area part item) (send_in S unit area part item) reply next h (kept_send S unit area part item (made.Send area part item))
kept_unit S unit (made.SwitchInput on terminal area key) reply next h =
    kept_verb S unit (made.SwitchInput on terminal area key) (switch_input S on terminal area key) reply next h (kept_leaf_flags S (switch_input S on terminal area key).1 (made.SwitchInput on terminal area key) (aside_switch_input S on terminal area key) (switched_outgoing S on terminal area key))
kept_unit S unit (made.SwitchOutput on area key) reply next h =
    kept_verb S unit (made.SwitchOutput on area key) (switch_output_in S on area key) reply next h (kept_switch_output S on area key (made.SwitchOutput on area key) refl)
kept_unit S unit (made.Stop reason) reply next h = by_next S (made.Stop reason) (may_stop S unit reason) _ reply next h (kept_stop S unit (made.Stop reason))
kept_unit S unit (made.Arrive stamp message) reply next h = absurd (none-some (reply, next) h)
kept_unit S unit made.Held reply next h = absurd (none-some (reply, next) h)
kept_unit S unit (made.Finish reason) reply next h = absurd (none-some (reply, next) h)

kept_arrive : (S : State) (terminal : ℕ) (name : List ℕ) (stamp : Moment) (message : RawMessage) (feed : Feed) → Keeps S (made.Arrive stamp message) (arrive S terminal name stamp message feed).1
kept_arrive S terminal name stamp message feed =
    kept_chain S (made.Arrive stamp message) _ (arrive S terminal name stamp message feed).1
    record { net = refl; waiting = inl refl; queued = (kept_same S (made.Arrive stamp message) S (same_queues S)).queued }
    (kept_same _ (made.Arrive stamp message) (arrive S terminal name stamp message feed).1 (queues_arrival terminal _))

pub kept_of_terminal : (S : State) (terminal : ℕ) (name : List ℕ) (call : Call) (reply : Reply) (next : State) → terminal_step S terminal name call ≡ Some (reply, next) → Keeps S call next
kept_of_terminal S terminal name (made.Arrive stamp message) reply next h = elim (option_cases (feed_of S.net terminal)) [
  | inl none ↦ absurd (none-some (reply, next) (rw (none, terminal_step) at h))
  | inr some ↦ by_next S (made.Arrive stamp message) _ (arrive S terminal name stamp message some.0) reply next (rw (some.1, terminal_step) at h) (kept_arrive S terminal name stamp message some.0)
]
kept_of_terminal S terminal name made.Held reply next h = by_next S made.Held _ _ reply next h (kept_same S made.Held _ (queues_terminal_mode terminal Holding S))
kept_of_terminal S terminal name (made.Finish reason) reply next h = by_next S (made.Finish reason) _ _ reply next h (kept_same S (made.Finish reason) _ (queues_terminal_mode terminal Ended S))
kept_of_terminal S terminal name made.Start reply next h = absurd (none-some (reply, next) h)
kept_of_terminal S terminal name (made.Receive area kind size no_data) reply next h = absurd (none-some (reply, next) h)
kept_of_terminal S terminal name (made.Count area) reply next h = absurd (none-some (reply, next) h)
kept_of_terminal S terminal name (made.Send area part item) reply next h = absurd (none-some (reply, next) h)
kept_of_terminal S terminal name (made.SwitchInput on is_terminal area key) reply next h = absurd (none-some (reply, next) h)
kept_of_terminal S terminal name (made.SwitchOutput on area key) reply next h = absurd (none-some (reply, next) h)
kept_of_terminal S terminal name (made.Stop reason) reply next h = absurd (none-some (reply, next) h)

pub keeps : (S : State) (who : Party) (call : Call) (reply : Reply) (next : State) → step S who call ≡ Some (reply, next) → Keeps S call next
keeps S (party.Unit name) call reply next h = let its = step_of_unit S name call reply next h in kept_unit S its.0 call reply next its.2
keeps S (party.Terminal name) call reply next h = let its = step_of_terminal S name call reply next h in kept_of_terminal S its.0 name call reply next its.2
