-- Worked histories of units that start, wait and stop, and of the limits.
use Rattle.std.specs.Prelude.{◌≡◌, ℕ, true, false, List, [], ◌∷◌, ◌++◌, Some, None, is_some, IsTrue, codes, refl}
use Rattle.com_events.specs.declared.call.Call.{Call}
use Rattle.com_events.specs.declared.entry.Entry.{Entry}
use Rattle.com_state.specs.declared.parties.UnitMode.TheVariants.{Running}
use Rattle.com_state.specs.declared.parties.TerminalMode.TheVariants.{Feeding}
use Rattle.com_state.specs.State.{State, opening}
use Rattle.com_state.specs.Steps.{step}
use Rattle.com_state.specs.Histories.{IsRun}
use Rattle.com_msg.specs.declared.message.End.TheVariants as ending
use Rattle.com_msg.specs.declared.rest.Kind.TheVariants as kind
use Rattle.com_events.specs.declared.call.Party.TheVariants as party
use Rattle.com_events.specs.declared.call.StopReason.TheVariants as stop
use Rattle.com_events.specs.declared.call.EndReason.TheVariants as finish
use Rattle.com_events.specs.declared.call.Call.TheVariants as call
use Rattle.com_events.specs.declared.reply.Reply.TheVariants as reply
use Rattle.com_state.proofs.WorkedNets.{Counts, Excludes, by_unit, by_terminal, n1, two_units_net, two_terminals_net, scheduled_net}
use Rattle.com_state.proofs.WorkedReceives.{arrives, starts, q1_names, q1_area, q1_given, echo_gets, named}
use Rattle.com_state.proofs.WorkedInputs.{echo_party, t1_party, arrival}

-- the message that starts a unit goes to another, and all ends with the unit waiting
abbrev pub scheduled : List Entry
scheduled =
    arrives (codes "HELLO" ∷ []) ending.Emi 1
    ∷ by_unit (codes "S1") call.Start (reply.Started (Some q1_names))
    ∷ starts (codes "ECHO")
    ∷ echo_gets kind.Message 20 (codes "0005200000000") (codes "HELLO")
    ∷ by_unit (codes "S1") (call.Receive q1_area kind.Message 20 false) reply.Waits
    ∷ by_unit (codes "ECHO") (call.Stop stop.Run) reply.Done
    ∷ by_terminal (codes "T1") (call.Finish finish.End) reply.Done
    ∷ by_unit (codes "S1") (call.Stop stop.Idle) reply.Done
    ∷ []

-- RECEIVE of three characters, without NO DATA
abbrev pub asks_for : ℕ → Call
asks_for size = call.Receive q1_area kind.Message size false

abbrev pub waits : Entry
waits = by_unit (codes "ECHO") (asks_for 3) reply.Waits

abbrev pub waited : List Entry
waited = starts (codes "ECHO") ∷ waits ∷ []

abbrev pub waited_enough : List Entry
waited_enough = waited ++ arrives (codes "ABCDE" ∷ []) ending.Emi 1 ∷ []

-- RECEIVE of three characters of Q1 as another area names it
abbrev pub asks_by_other_area : Call
asks_by_other_area = call.Receive (named q1_names (codes "20")) kind.Message 3 false

abbrev pub asks_for_segment : Call
asks_for_segment = call.Receive q1_area kind.Segment 3 false

abbrev pub asks_with_no_data : Call
asks_with_no_data = call.Receive q1_area kind.Message 3 true

-- a RECEIVE waits, goes on, and waits until nothing can happen any more
abbrev pub resumed : List Entry
resumed = waited_enough ++ (
    by_unit (codes "ECHO") (asks_for 3)
    (reply.Given (q1_given (codes "0003000000000")) (codes "ABC"))
    ∷ by_unit (codes "ECHO") (asks_for 3)
    (reply.Given (q1_given (codes "0002200000000")) (codes "DE"))
    ∷ waits
    ∷ by_terminal (codes "T1") (call.Finish finish.End) reply.Done
    ∷ by_unit (codes "ECHO") (call.Stop stop.Idle) reply.Done
    ∷ []
    )

-- ECHO runs and has done so many verbs, and so many messages of T1 have arrived
abbrev pub worn : ℕ → ℕ → State
worn verbs arrivals = record (opening n1) {
  units = record { mode = Running; verbs = verbs } ∷ [];
  terminals = record { mode = Feeding; arrivals = arrivals } ∷ [];
  arrivals = arrivals;
}

-- the unit ECHO stops and the terminal T1 ends
abbrev pub echo_stops : Entry
echo_stops = by_unit (codes "ECHO") (call.Stop stop.Run) reply.Done

abbrev pub t1_ends : Entry
t1_ends = by_terminal (codes "T1") (call.Finish finish.End) reply.Done

-- no message comes for the unit that one starts
abbrev pub never_started : List Entry
never_started =
    starts (codes "ECHO")
    ∷ echo_stops
    ∷ t1_ends
    ∷ by_unit (codes "S1") (call.Stop stop.Idle) reply.Done
    ∷ []

-- one comes, and so the unit can still start
abbrev pub still_to_start : List Entry
still_to_start =
    starts (codes "ECHO")
    ∷ echo_stops
    ∷ arrives (codes "HELLO" ∷ []) ending.Emi 1
    ∷ t1_ends
    ∷ []

abbrev pub unit_waits : List ℕ → Entry
unit_waits name = by_unit name (asks_for 3) reply.Waits

-- two units wait, and both stop
abbrev pub both_wait : List Entry
both_wait =
    starts (codes "U1")
    ∷ starts (codes "U2")
    ∷ unit_waits (codes "U1")
    ∷ unit_waits (codes "U2")
    ∷ t1_ends
    ∷ by_unit (codes "U2") (call.Stop stop.Idle) reply.Done
    ∷ by_unit (codes "U1") (call.Stop stop.Idle) reply.Done
    ∷ []

-- a unit that a message starts, and that waits when nothing can happen any more
started_by_a_message : IsRun scheduled_net scheduled
unfolding step
started_by_a_message = refl

-- a RECEIVE that waits is the only verb of its unit until there is something
goes_on : IsRun n1 resumed
unfolding step
goes_on = refl

goes_on_counted : Counts n1 resumed (2 ∷ [])
unfolding step
goes_on_counted = refl

nothing_there : Excludes n1 waited echo_party (asks_for 3)
unfolding step
nothing_there = refl

no_other_verb : Excludes n1 waited_enough echo_party (call.Count q1_area)
unfolding step
no_other_verb = refl

no_other_area : Excludes n1 waited_enough echo_party asks_by_other_area
unfolding step
no_other_area = refl

no_other_kind : Excludes n1 waited_enough echo_party asks_for_segment
unfolding step
no_other_kind = refl

no_data_is_another : Excludes n1 waited_enough echo_party asks_with_no_data
unfolding step
no_data_is_another = refl

no_other_size : Excludes n1 waited_enough echo_party (asks_for 4)
unfolding step
no_other_size = refl

no_stop_run : Excludes n1 waited_enough echo_party (call.Stop stop.Run)
unfolding step
no_stop_run = refl

not_idle : Excludes n1 waited echo_party (call.Stop stop.Idle)
unfolding step
not_idle = refl

no_second_start : Excludes n1 resumed echo_party call.Start
unfolding step
no_second_start = refl

-- a unit whose message never comes stops without having begun
never_begun : IsRun scheduled_net never_started
unfolding step
never_begun = refl

still_to_begin : IsRun scheduled_net still_to_start
unfolding step
still_to_begin = refl

still_to_begin_is_not_idle : Excludes scheduled_net still_to_start (party.Unit (codes "S1")) (call.Stop stop.Idle)
unfolding step
still_to_begin_is_not_idle = refl

-- two units that wait, and nothing more comes
both_waiting : IsRun two_units_net both_wait
unfolding step
both_waiting = refl

-- who may call what at the beginning
no_message : Excludes scheduled_net [] (party.Unit (codes "S1")) call.Start
unfolding step
no_message = refl

no_such_unit : Excludes n1 [] (party.Unit (codes "S1")) call.Start
unfolding step
no_such_unit = refl

not_twice : Excludes n1 (starts (codes "ECHO") ∷ []) echo_party call.Start
unfolding step
not_twice = refl

not_before_start : Excludes n1 [] echo_party (call.Count q1_area)
unfolding step
not_before_start = refl

no_unit : Excludes n1 [] t1_party call.Start
unfolding step
no_unit = refl

no_terminal : Excludes n1 (starts (codes "ECHO") ∷ []) echo_party call.Held
unfolding step
no_terminal = refl

no_feed : Excludes two_terminals_net [] (party.Terminal (codes "T2")) (arrival (codes "A"))
unfolding step
no_feed = refl

-- a unit does 10,000 verbs, and 65,536 messages of a terminal arrive
last_verb : IsTrue (is_some (step (worn 9999 0) echo_party (call.Count q1_area)))
unfolding step
last_verb = refl

no_verb_more : step (worn 10000 0) echo_party (call.Count q1_area) ≡ None
unfolding step
no_verb_more = refl

last_receive : IsTrue (is_some (step (worn 9999 0) echo_party (call.Receive q1_area kind.Message 1 true)))
unfolding step
last_receive = refl

no_receive_more : step (worn 10000 0) echo_party (call.Receive q1_area kind.Message 1 true) ≡ None
unfolding step
no_receive_more = refl

still_stops : IsTrue (is_some (step (worn 10000 0) echo_party (call.Stop stop.Limit)))
unfolding step
still_stops = refl

last_arrival : IsTrue (is_some (step (worn 0 65535) t1_party (arrival (codes "A"))))
unfolding step
last_arrival = refl

no_arrival_more : step (worn 0 65536) t1_party (arrival (codes "A")) ≡ None
unfolding step
no_arrival_more = refl

no_holding_more : step (record (worn 0 65536) { input_on = false ∷ [] }) t1_party call.Held ≡ None
unfolding step
no_holding_more = refl

still_ends : IsTrue (is_some (step (worn 0 65536) t1_party (call.Finish finish.Long)))
unfolding step
still_ends = refl
