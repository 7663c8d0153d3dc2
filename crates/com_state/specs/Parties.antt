-- What the entries of one party tell of it.
use Rattle.std.specs.Prelude.{ℕ, ◌+◌, Bool, true, false, ◌&&◌, nat_lt, List, Option, Some, None}
use Rattle.std.specs.List.{filter, fold}
use Rattle.std.specs.Str.{bytes_eq}
use Rattle.com_events.specs.declared.call.Party.{Party}
use Rattle.com_events.specs.declared.call.Party.TheVariants as party
use Rattle.com_events.specs.declared.call.StopReason.TheVariants as stop
use Rattle.com_events.specs.declared.call.EndReason.TheVariants as finish
use Rattle.com_events.specs.declared.call.Call.{Call}
use Rattle.com_events.specs.declared.call.Call.TheVariants.{Start, Receive, Count, Send, SwitchInput, SwitchOutput, Arrive, Held, Stop, Finish}
use Rattle.com_events.specs.declared.reply.Reply.{Reply}
use Rattle.com_events.specs.declared.reply.Reply.TheVariants.{Waits}
use Rattle.com_events.specs.declared.entry.Entry.{Entry}
use Rattle.com_state.specs.declared.parties.TheConstants.{MAX_VERBS, MAX_ARRIVALS}
use Rattle.com_state.specs.declared.parties.UnitMode.{UnitMode}
use Rattle.com_state.specs.declared.parties.UnitMode.TheVariants.{Dormant, Running, WaitingFor, Stopped}
use Rattle.com_state.specs.declared.parties.UnitState.{UnitState}
use Rattle.com_state.specs.declared.parties.TerminalMode.{TerminalMode}
use Rattle.com_state.specs.declared.parties.TerminalMode.TheVariants.{Feeding, Holding, Ended}
use Rattle.com_state.specs.declared.parties.TerminalState.{TerminalState}
use Rattle.com_state.specs.State.{opening_unit, opening_terminal}
use Rattle.com_state.specs.Steps.{is_waiting_for}

-- the same party
abbrev pub is_party : Party → Party → Bool
is_party (party.Unit name) (party.Unit other) = bytes_eq name other
is_party (party.Terminal name) (party.Terminal other) = bytes_eq name other
is_party (party.Unit name) (party.Terminal other) = false
is_party (party.Terminal name) (party.Unit other) = false

-- the entries of a party, in order
abbrev pub entries_of : Party → List Entry → List Entry
entries_of who history = filter (λ entry. is_party who entry.party) history

-- a verb was done
abbrev pub with_verb_done : UnitState → UnitState
with_verb_done unit = record { mode = Running; verbs = unit.verbs + 1 }

-- a RECEIVE that is answered WAITS is no verb yet
abbrev pub after_receive : UnitState → UnitMode → Reply → UnitState
after_receive unit waiting Waits = record unit { mode = waiting }
after_receive unit waiting _ = with_verb_done unit

-- a unit when it has made a call
abbrev pub after_unit_call : UnitState → Call → Reply → UnitState
after_unit_call unit Start reply = record unit { mode = Running }
after_unit_call unit (Receive area kind size no_data) reply =
    after_receive unit (WaitingFor area kind size) reply
after_unit_call unit (Count area) reply = with_verb_done unit
after_unit_call unit (Send area part item) reply = with_verb_done unit
after_unit_call unit (SwitchInput on terminal area key) reply = with_verb_done unit
after_unit_call unit (SwitchOutput on area key) reply = with_verb_done unit
after_unit_call unit (Stop reason) reply = record unit { mode = Stopped }
after_unit_call unit _ reply = unit

-- a terminal when it has made a call
abbrev pub after_terminal_call : TerminalState → Call → TerminalState
after_terminal_call terminal (Arrive stamp message) =
    record { mode = Feeding; arrivals = terminal.arrivals + 1 }
after_terminal_call terminal Held = record terminal { mode = Holding }
after_terminal_call terminal (Finish reason) = record terminal { mode = Ended }
after_terminal_call terminal _ = terminal

-- a unit by its own entries
abbrev pub unit_by : List Entry → UnitState
unit_by entries = fold (λ unit entry. after_unit_call unit entry.call entry.reply) opening_unit entries

-- a terminal by its own entries
abbrev pub terminal_by : List Entry → TerminalState
terminal_by entries =
    fold (λ terminal entry. after_terminal_call terminal entry.call) opening_terminal entries

-- whether a unit that runs may do one more verb
abbrev pub is_free : UnitMode → ℕ → Bool
is_free Running verbs = nat_lt verbs MAX_VERBS
is_free _ verbs = false

-- not settled where a test holds, and no where it fails
abbrev pub only_if : Bool → Option Bool
only_if true = None
only_if false = Some false

-- Whether a unit may make a call, where its own mode and count settle it; none where it depends on
-- what waits, on what is held or on the other parties too.
abbrev pub may_by_unit : Call → UnitMode → ℕ → Option Bool
may_by_unit Start Dormant verbs = None
may_by_unit Start _ verbs = Some false
may_by_unit (Receive area kind size no_data) (WaitingFor own own_kind own_size) verbs =
    only_if (nat_lt verbs MAX_VERBS && is_waiting_for (Some (WaitingFor own own_kind own_size)) area kind size no_data)
may_by_unit (Receive area kind size no_data) mode verbs = Some (is_free mode verbs)
may_by_unit (Count area) mode verbs = Some (is_free mode verbs)
may_by_unit (Send area part item) mode verbs = Some (is_free mode verbs)
may_by_unit (SwitchInput on terminal area key) mode verbs = Some (is_free mode verbs)
may_by_unit (SwitchOutput on area key) mode verbs = Some (is_free mode verbs)
may_by_unit (Stop stop.Idle) Dormant verbs = None
may_by_unit (Stop stop.Idle) (WaitingFor own own_kind own_size) verbs = None
may_by_unit (Stop stop.Idle) _ verbs = Some false
may_by_unit (Stop reason) Running verbs = Some true
may_by_unit (Stop reason) _ verbs = Some false
may_by_unit _ mode verbs = Some false

-- the same of a terminal; what depends on routes and flags is not settled by it alone
abbrev pub may_by_terminal : Call → TerminalMode → ℕ → Option Bool
may_by_terminal (Arrive stamp message) Ended arrivals = Some false
may_by_terminal (Arrive stamp message) _ arrivals = only_if (nat_lt arrivals MAX_ARRIVALS)
may_by_terminal Held Feeding arrivals = only_if (nat_lt arrivals MAX_ARRIVALS)
may_by_terminal Held _ arrivals = Some false
may_by_terminal (Finish finish.Idle) Holding arrivals = None
may_by_terminal (Finish finish.Idle) _ arrivals = Some false
may_by_terminal (Finish reason) Feeding arrivals = Some true
may_by_terminal (Finish reason) _ arrivals = Some false
may_by_terminal _ mode arrivals = Some false
