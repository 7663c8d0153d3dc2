-- What a party may do, where its own mode and count settle it.
use Rattle.std.proofs.Common.{◌≡◌, ℕ, Bool, true, false, not, ◌&&◌, nat_lt, List, None, Some, refl, sym, ap, ◌∙◌, inl, inr}
use Rattle.std.specs.Prelude.{is_some, slice_get, if◌then◌else◌}
use Rattle.std.proofs.lemmas.Bool.{cases_Bool}
use Rattle.std.proofs.lemmas.Option.{none-some, same_Some}
use Rattle.com_msg.specs.Stamp.{Moment}
use Rattle.com_msg.specs.declared.message.RawMessage.{RawMessage}
use Rattle.com_msg.specs.declared.rest.Kind.{Kind}
use Rattle.com_net.specs.Numbers.{unit_number, terminal_number}
use Rattle.com_events.specs.declared.call.Party.TheVariants as party
use Rattle.com_events.specs.declared.call.StopReason.{StopReason}
use Rattle.com_events.specs.declared.call.StopReason.TheVariants as stop
use Rattle.com_events.specs.declared.call.EndReason.TheVariants as finish
use Rattle.com_events.specs.declared.call.Call.{Call}
use Rattle.com_events.specs.declared.call.Call.TheVariants as made
use Rattle.com_events.specs.declared.reply.Reply.{Reply}
use Rattle.com_events.specs.declared.reply.Reply.TheVariants.{AreaIn, Done}
use Rattle.com_state.specs.declared.parties.TheConstants.{MAX_VERBS, MAX_ARRIVALS}
use Rattle.com_state.specs.declared.parties.UnitMode.{UnitMode}
use Rattle.com_state.specs.declared.parties.UnitMode.TheVariants.{Dormant, Running, WaitingFor, Stopped}
use Rattle.com_state.specs.declared.parties.UnitState.{UnitState}
use Rattle.com_state.specs.declared.parties.TerminalMode.{TerminalMode}
use Rattle.com_state.specs.declared.parties.TerminalMode.TheVariants.{Feeding, Holding, Ended}
use Rattle.com_state.specs.declared.parties.TerminalState.{TerminalState}
use Rattle.com_recv.specs.Receiving.{count}
use Rattle.com_send.specs.Sending.{send}
use Rattle.com_send.specs.Switching.{switch_output}
use Rattle.com_state.specs.State.{State, destinations_of, terminal_mode}
use Rattle.com_state.specs.Answers.{answered}
use Rattle.com_state.specs.Switches.{switch_input}
use Rattle.com_state.specs.Steps.{step, unit_step, terminal_step, verb, may_do_verb, may_arrive, is_idle, is_feeding, is_feeding_or_holding, is_path_open, is_waiting_for, arrive, with_terminal_mode, feed_of}
use Rattle.com_state.specs.Parties.{is_free, may_by_unit, may_by_terminal}
use Rattle.com_state.proofs.Frames.{option_cases}
use Rattle.com_state.proofs.StepCases.{unit_steps, terminal_steps}
use Rattle.com_state.proofs.Idling.{ended_calls}

-- the unit is in this mode, and has done so many verbs
abbrev IsUnit : State → ℕ → UnitMode → ℕ → Type 0
IsUnit S unit mode verbs = slice_get S.units unit ≡ Some (record { mode = mode; verbs = verbs })

-- a verb
free_verb : (S : State) (unit : ℕ) (mode : UnitMode) (verbs : ℕ) (done : Reply × State) → IsUnit S unit mode verbs → is_some (verb S unit done) ≡ is_free mode verbs
free_verb S unit Running verbs done e = elim (cases_Bool (nat_lt verbs MAX_VERBS)) [
  | inl few ↦ rw (e, few, may_do_verb) refl
  | inr many ↦ rw (e, many, may_do_verb) refl
]
free_verb S unit Dormant verbs done e = rw (e, may_do_verb) refl
free_verb S unit (WaitingFor area kind size) verbs done e = rw (e, may_do_verb) refl
free_verb S unit Stopped verbs done e = rw (e, may_do_verb) refl

-- RECEIVE of a unit that does not wait
free_receive : (S : State) (unit : ℕ) (mode : UnitMode) (verbs : ℕ) (area : List ℕ) (kind : Kind) (size : ℕ) (no_data may : Bool) → IsUnit S unit mode verbs
    → may_by_unit (made.Receive area kind size no_data) mode verbs ≡ Some may → is_some (unit_step S unit (made.Receive area kind size no_data)) ≡ may
free_receive S unit Running verbs area kind size no_data may e told = elim (cases_Bool (nat_lt verbs MAX_VERBS)) [
  | inl few ↦ rw (e, few, may_do_verb) (sym few ∙ same_Some (nat_lt verbs MAX_VERBS) may told)
  | inr many ↦ rw (e, many, may_do_verb) (sym many ∙ same_Some (nat_lt verbs MAX_VERBS) may told)
]
free_receive S unit Dormant verbs area kind size no_data may e told = elim (cases_Bool (nat_lt verbs MAX_VERBS)) [
  | inl few ↦ rw (e, few, may_do_verb) (same_Some false may told)
  | inr many ↦ rw (e, many, may_do_verb) (same_Some false may told)
]
free_receive S unit Stopped verbs area kind size no_data may e told = elim (cases_Bool (nat_lt verbs MAX_VERBS)) [
  | inl few ↦ rw (e, few, may_do_verb) (same_Some false may told)
  | inr many ↦ rw (e, many, may_do_verb) (same_Some false may told)
]
free_receive S unit (WaitingFor own own_kind own_size) verbs area kind size no_data may e told = elim (cases_Bool (nat_lt verbs MAX_VERBS)) [
  | inl few ↦ elim (cases_Bool (is_waiting_for (Some (WaitingFor own own_kind own_size)) area kind size no_data)) [
    | inl waiting ↦ absurd (none-some may (rw (few, waiting) at told))
    | inr other ↦ rw (e, few, may_do_verb, other) (same_Some false may (rw (few, other) at told))
  ]
  | inr many ↦ rw (e, many, may_do_verb) (same_Some false may (rw many at told))
]

free_start : (S : State) (unit : ℕ) (mode : UnitMode) (verbs : ℕ) (may : Bool) → IsUnit S unit mode verbs → may_by_unit made.Start mode verbs ≡ Some may → is_some (unit_step S unit made.Start) ≡ may
free_start S unit Dormant verbs may e told = absurd (none-some may told)
free_start S unit Running verbs may e told = rw e (same_Some false may told)
free_start S unit (WaitingFor area kind size) verbs may e told = rw e (same_Some false may told)
free_start S unit Stopped verbs may e told = rw e (same_Some false may told)

free_stop : (S : State) (unit : ℕ) (mode : UnitMode) (verbs : ℕ) (reason : StopReason) (may : Bool) → IsUnit S unit mode verbs → may_by_unit (made.Stop reason) mode verbs ≡ Some may
    → is_some (unit_step S unit (made.Stop reason)) ≡ may
free_stop S unit Dormant verbs stop.Idle may e told = absurd (none-some may told)
free_stop S unit (WaitingFor area kind size) verbs stop.Idle may e told = absurd (none-some may told)
free_stop S unit Running verbs stop.Idle may e told = elim (cases_Bool (is_idle S)) [
  | inl idle ↦ rw (idle, e) (same_Some false may told)
  | inr busy ↦ rw busy (same_Some false may told)
]
free_stop S unit Stopped verbs stop.Idle may e told = elim (cases_Bool (is_idle S)) [
  | inl idle ↦ rw (idle, e) (same_Some false may told)
  | inr busy ↦ rw busy (same_Some false may told)
]
free_stop S unit Running verbs stop.Run may e told = rw e (same_Some true may told)
free_stop S unit Running verbs stop.Limit may e told = rw e (same_Some true may told)
free_stop S unit Running verbs stop.DataFault may e told = rw e (same_Some true may told)
free_stop S unit Dormant verbs stop.Run may e told = rw e (same_Some false may told)
free_stop S unit Dormant verbs stop.Limit may e told = rw e (same_Some false may told)
free_stop S unit Dormant verbs stop.DataFault may e told = rw e (same_Some false may told)
free_stop S unit (WaitingFor area kind size) verbs stop.Run may e told = rw e (same_Some false may told)
free_stop S unit (WaitingFor area kind size) verbs stop.Limit may e told = rw e (same_Some false may told)
free_stop S unit (WaitingFor area kind size) verbs stop.DataFault may e told = rw e (same_Some false may told)
free_stop S unit Stopped verbs stop.Run may e told = rw e (same_Some false may told)
free_stop S unit Stopped verbs stop.Limit may e told = rw e (same_Some false may told)
free_stop S unit Stopped verbs stop.DataFault may e told = rw e (same_Some false may told)

free_unit : (S : State) (unit : ℕ) (mode : UnitMode) (verbs : ℕ) (call : Call) (may : Bool) → IsUnit S unit mode verbs → may_by_unit call mode verbs ≡ Some may → is_some (unit_step S unit call) ≡ may
free_unit S unit mode verbs made.Start may e told = free_start S unit mode verbs may e told
free_unit S unit mode verbs (made.Receive area kind size no_data) may e told = free_receive S unit mode verbs area kind size no_data may e told
free_unit S unit mode verbs (made.Count area) may e told = free_verb S unit mode verbs (AreaIn (count S.net.tree S.incoming area), S) e ∙ same_Some (is_free mode verbs) may told
free_unit S unit mode verbs (made.Send area part item) may e told = free_verb S unit mode verbs (answered S (send (destinations_of S.net) S.outgoing unit area part item)) e ∙ same_Some (is_free mode verbs) may told
free_unit S unit mode verbs (made.SwitchInput on terminal area key) may e told = free_verb S unit mode verbs (switch_input S on terminal area key) e ∙ same_Some (is_free mode verbs) may told
free_unit S unit mode verbs (made.SwitchOutput on area key) may e told = free_verb S unit mode verbs (answered S (switch_output (destinations_of S.net) S.outgoing on area key)) e ∙ same_Some (is_free mode verbs) may told
free_unit S unit mode verbs (made.Stop reason) may e told = free_stop S unit mode verbs reason may e told
free_unit S unit mode verbs (made.Arrive stamp message) may e told = same_Some false may told
free_unit S unit mode verbs made.Held may e told = same_Some false may told
free_unit S unit mode verbs (made.Finish reason) may e told = same_Some false may told

-- what a unit may do, where it alone settles that
pub settled_by_unit : (S : State) (name : List ℕ) (unit : ℕ) (u : UnitState) (call : Call) (may : Bool) → unit_number S.net name ≡ Some unit → slice_get S.units unit ≡ Some u
    → may_by_unit call u.mode u.verbs ≡ Some may → is_some (step S (party.Unit name) call) ≡ may
settled_by_unit S name unit u call may found e told = ap is_some (unit_steps S name unit call found) ∙ free_unit S unit u.mode u.verbs call may e told

-- the terminal is in this mode, and so many of its messages have arrived
abbrev IsTerminal : State → ℕ → TerminalMode → ℕ → Type 0
IsTerminal S terminal mode arrivals = slice_get S.terminals terminal ≡ Some (record { mode = mode; arrivals = arrivals })

-- the terminal has had all its arrivals
no_more : (S : State) (terminal : ℕ) (mode : TerminalMode) (arrivals : ℕ) → IsTerminal S terminal mode arrivals → nat_lt arrivals MAX_ARRIVALS ≡ false → may_arrive S terminal ≡ false
no_more S terminal mode arrivals e many = rw (may_arrive, e) many

and_false : (a b : Bool) → b ≡ false → (a && b) ≡ false
and_false true b e = e
and_false false b e = refl

none_if : {A : Type 0} (test : Bool) (next : A) → test ≡ false → is_some (if test then Some next else None) ≡ false
none_if false next e = refl
none_if true next e = let no : ⊥ = cc in absurd no

full_arrive : (S : State) (terminal : ℕ) (name : List ℕ) (mode : TerminalMode) (arrivals : ℕ) (stamp : Moment) (message : RawMessage) → IsTerminal S terminal mode arrivals → nat_lt arrivals MAX_ARRIVALS ≡ false
    → is_some (terminal_step S terminal name (made.Arrive stamp message)) ≡ false
full_arrive S terminal name mode arrivals stamp message e many = elim (option_cases (feed_of S.net terminal)) [
  | inl none ↦ rw (none, is_some) refl
  | inr some ↦ rw (some.1, is_some) (none_if ((is_path_open S terminal && is_feeding_or_holding (terminal_mode S terminal)) && may_arrive S terminal) (arrive S terminal name stamp message some.0)
      (and_false (is_path_open S terminal && is_feeding_or_holding (terminal_mode S terminal)) (may_arrive S terminal) (no_more S terminal mode arrivals e many)))
]

full_held : (S : State) (terminal : ℕ) (name : List ℕ) (mode : TerminalMode) (arrivals : ℕ) → IsTerminal S terminal mode arrivals → nat_lt arrivals MAX_ARRIVALS ≡ false
    → is_some (terminal_step S terminal name made.Held) ≡ false
full_held S terminal name mode arrivals e many =
    none_if (((is_some (feed_of S.net terminal) && is_feeding (terminal_mode S terminal)) && not (is_path_open S terminal)) && may_arrive S terminal) (Done, with_terminal_mode terminal Holding S)
    (and_false ((is_some (feed_of S.net terminal) && is_feeding (terminal_mode S terminal)) && not (is_path_open S terminal)) (may_arrive S terminal) (no_more S terminal mode arrivals e many))

free_arrive : (S : State) (terminal : ℕ) (name : List ℕ) (mode : TerminalMode) (arrivals : ℕ) (call : Call) (may : Bool) → IsTerminal S terminal mode arrivals → may_by_terminal call mode arrivals ≡ Some may
    → is_some (terminal_step S terminal name call) ≡ may
free_arrive S terminal name Ended arrivals (made.Arrive stamp message) may e told = ap is_some (ended_calls S terminal name (made.Arrive stamp message) (rw e refl)) ∙ same_Some false may told
free_arrive S terminal name Feeding arrivals (made.Arrive stamp message) may e told = elim (cases_Bool (nat_lt arrivals MAX_ARRIVALS)) [
  | inl few ↦ absurd (none-some may (rw few at told))
  | inr many ↦ full_arrive S terminal name Feeding arrivals stamp message e many ∙ same_Some false may (rw many at told)
]
free_arrive S terminal name Holding arrivals (made.Arrive stamp message) may e told = elim (cases_Bool (nat_lt arrivals MAX_ARRIVALS)) [
  | inl few ↦ absurd (none-some may (rw few at told))
  | inr many ↦ full_arrive S terminal name Holding arrivals stamp message e many ∙ same_Some false may (rw many at told)
]
free_arrive S terminal name Feeding arrivals made.Held may e told = elim (cases_Bool (nat_lt arrivals MAX_ARRIVALS)) [
  | inl few ↦ absurd (none-some may (rw few at told))
  | inr many ↦ full_held S terminal name Feeding arrivals e many ∙ same_Some false may (rw many at told)
]
free_arrive S terminal name Holding arrivals made.Held may e told = elim (cases_Bool (is_some (feed_of S.net terminal))) [
  | inl fed ↦ rw (fed, e) (same_Some false may told)
  | inr unfed ↦ rw unfed (same_Some false may told)
]
free_arrive S terminal name Ended arrivals made.Held may e told = elim (cases_Bool (is_some (feed_of S.net terminal))) [
  | inl fed ↦ rw (fed, e) (same_Some false may told)
  | inr unfed ↦ rw unfed (same_Some false may told)
]
free_arrive S terminal name Holding arrivals (made.Finish finish.Idle) may e told = absurd (none-some may told)
free_arrive S terminal name Feeding arrivals (made.Finish finish.Idle) may e told = elim (cases_Bool (is_idle S)) [
  | inl idle ↦ rw (idle, e) (same_Some false may told)
  | inr busy ↦ rw busy (same_Some false may told)
]
free_arrive S terminal name Ended arrivals (made.Finish finish.Idle) may e told = elim (cases_Bool (is_idle S)) [
  | inl idle ↦ rw (idle, e) (same_Some false may told)
  | inr busy ↦ rw busy (same_Some false may told)
]
free_arrive S terminal name Feeding arrivals (made.Finish finish.End) may e told = rw e (same_Some true may told)
free_arrive S terminal name Feeding arrivals (made.Finish (finish.Frame fault)) may e told = rw e (same_Some true may told)
free_arrive S terminal name Feeding arrivals (made.Finish finish.Fault) may e told = rw e (same_Some true may told)
free_arrive S terminal name Feeding arrivals (made.Finish finish.Long) may e told = rw e (same_Some true may told)
free_arrive S terminal name Holding arrivals (made.Finish finish.End) may e told = rw e (same_Some false may told)
free_arrive S terminal name Holding arrivals (made.Finish (finish.Frame fault)) may e told = rw e (same_Some false may told)
free_arrive S terminal name Holding arrivals (made.Finish finish.Fault) may e told = rw e (same_Some false may told)
free_arrive S terminal name Holding arrivals (made.Finish finish.Long) may e told = rw e (same_Some false may told)
free_arrive S terminal name Ended arrivals (made.Finish finish.End) may e told = rw e (same_Some false may told)
free_arrive S terminal name Ended arrivals (made.Finish (finish.Frame fault)) may e told = rw e (same_Some false may told)
free_arrive S terminal name Ended arrivals (made.Finish finish.Fault) may e told = rw e (same_Some false may told)
free_arrive S terminal name Ended arrivals (made.Finish finish.Long) may e told = rw e (same_Some false may told)
free_arrive S terminal name mode arrivals made.Start may e told = same_Some false may told
free_arrive S terminal name mode arrivals (made.Receive area kind size no_data) may e told = same_Some false may told
free_arrive S terminal name mode arrivals (made.Count area) may e told = same_Some false may told
free_arrive S terminal name mode arrivals (made.Send area part item) may e told = same_Some false may told
free_arrive S terminal name mode arrivals (made.SwitchInput on is_terminal area key) may e told = same_Some false may told
free_arrive S terminal name mode arrivals (made.SwitchOutput on area key) may e told = same_Some false may told
free_arrive S terminal name mode arrivals (made.Stop reason) may e told = same_Some false may told

-- what a terminal may do, where it alone settles that
pub settled_by_terminal : (S : State) (name : List ℕ) (terminal : ℕ) (t : TerminalState) (call : Call) (may : Bool) → terminal_number S.net name ≡ Some terminal → slice_get S.terminals terminal ≡ Some t
    → may_by_terminal call t.mode t.arrivals ≡ Some may → is_some (step S (party.Terminal name) call) ≡ may
settled_by_terminal S name terminal t call may found e told = ap is_some (terminal_steps S name terminal call found) ∙ free_arrive S terminal name t.mode t.arrivals call may e told
