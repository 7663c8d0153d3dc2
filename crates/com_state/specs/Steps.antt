-- What each call does: the steps of the system.
use Rattle.std.specs.Prelude.{ℕ, ◌+◌, Bool, true, false, not, ◌&&◌, ◌||◌, ◌==◌, nat_lt, unwrap_or, List, [], ◌∷◌, ◌++◌, length, Option, Some, None, is_some, is_none, option_map, option_and_then, slice_get, slice_set, if◌then◌else◌}
use Rattle.std.specs.List.{list_all, range_with_len}
use Rattle.std.specs.Str.{bytes_eq}
use Rattle.com_msg.specs.Stamp.{Moment}
use Rattle.com_msg.specs.declared.message.RawMessage.{RawMessage}
use Rattle.com_msg.specs.declared.message.Message.{Message}
use Rattle.com_msg.specs.declared.rest.Kind.{Kind}
use Rattle.com_msg.specs.declared.rest.Kind.TheVariants.{Message as message_kind, Segment as segment_kind}
use Rattle.com_tree.specs.declared.tree.Node.{Node}
use Rattle.com_net.specs.declared.net.Net.{Net}
use Rattle.com_net.specs.declared.net.Feed.{Feed}
use Rattle.com_net.specs.Numbers.{terminal_number, unit_number}
use Rattle.com_events.specs.declared.call.Party.{Party}
use Rattle.com_events.specs.declared.call.Party.TheVariants as party
use Rattle.com_events.specs.declared.call.StopReason.{StopReason}
use Rattle.com_events.specs.declared.call.StopReason.TheVariants as stop
use Rattle.com_events.specs.declared.call.EndReason.{EndReason}
use Rattle.com_events.specs.declared.call.EndReason.TheVariants as finish
use Rattle.com_events.specs.declared.call.Call.{Call}
use Rattle.com_events.specs.declared.call.Call.TheVariants.{Start, Receive, Count, Send, SwitchInput, SwitchOutput, Arrive, Held as IsHeld, Stop, Finish}
use Rattle.com_events.specs.declared.reply.Reply.{Reply}
use Rattle.com_events.specs.declared.reply.Reply.TheVariants.{Started, Waits, AreaIn, Arrived, Done}
use Rattle.com_cd.specs.Designation.{path_fields}
use Rattle.com_recv.specs.declared.lists.Waiting.{Waiting}
use Rattle.com_recv.specs.Areas.{path_of_leaf}
use Rattle.com_recv.specs.Incoming.{designated, chosen_leaf, without_unit}
use Rattle.com_recv.specs.Receiving.{receive, count}
use Rattle.com_send.specs.Outgoing.{drop_unit}
use Rattle.com_send.specs.Sending.{send}
use Rattle.com_send.specs.Switching.{switch_output}
use Rattle.com_state.specs.declared.parties.TheConstants.{MAX_VERBS, MAX_ARRIVALS}
use Rattle.com_state.specs.declared.parties.UnitMode.{UnitMode}
use Rattle.com_state.specs.declared.parties.UnitMode.TheVariants.{Dormant, Running, WaitingFor, Stopped}
use Rattle.com_state.specs.declared.parties.TerminalMode.{TerminalMode}
use Rattle.com_state.specs.declared.parties.TerminalMode.TheVariants.{Feeding, Holding, Ended}
use Rattle.com_state.specs.State.{State, destinations_of, unit_mode, terminal_mode}
use Rattle.com_state.specs.Answers.{is_ready, received, answered}
use Rattle.com_state.specs.Switches.{switch_input}

-- this reply and state, where the test holds, and otherwise undefined
abbrev pub next_if : Bool → Reply × State → Option (Reply × State)
next_if test next = if test then Some next else None

-- there is such a unit, and it has not started
abbrev pub is_dormant : Option UnitMode → Bool
is_dormant (Some Dormant) = true
is_dormant _ = false

-- there is such a unit, and it runs
abbrev pub is_running : Option UnitMode → Bool
is_running (Some Running) = true
is_running _ = false

-- there is such a terminal, and it feeds
abbrev pub is_feeding : Option TerminalMode → Bool
is_feeding (Some Feeding) = true
is_feeding _ = false

-- there is such a terminal, and it holds a message
abbrev pub is_holding : Option TerminalMode → Bool
is_holding (Some Holding) = true
is_holding _ = false

-- the unit is in this mode
abbrev pub with_unit_mode : ℕ → UnitMode → State → State
with_unit_mode unit mode S = elim (slice_get S.units unit) [
  | None ↦ S
  | Some u ↦ record S { units = slice_set S.units unit (record u { mode = mode }) }
]

-- the terminal is in this mode
abbrev pub with_terminal_mode : ℕ → TerminalMode → State → State
with_terminal_mode terminal mode S = elim (slice_get S.terminals terminal) [
  | None ↦ S
  | Some t ↦ record S { terminals = slice_set S.terminals terminal (record t { mode = mode }) }
]

-- one verb more of the unit was done, and it runs
abbrev pub with_verb : ℕ → State → State
with_verb unit S = elim (slice_get S.units unit) [
  | None ↦ S
  | Some u ↦ record S
      { units = slice_set S.units unit (record { mode = Running; verbs = u.verbs + 1 }) }
]

-- one message more of the terminal has arrived, and it feeds
abbrev pub with_arrival : ℕ → State → State
with_arrival terminal S = elim (slice_get S.terminals terminal) [
  | None ↦ S
  | Some t ↦ record S {
    terminals = slice_set S.terminals terminal
        (record { mode = Feeding; arrivals = t.arrivals + 1 });
  }
]

-- the unit has not done all its verbs
abbrev pub may_do_verb : State → ℕ → Bool
may_do_verb S unit = elim (slice_get S.units unit) [
  | None ↦ false
  | Some u ↦ nat_lt u.verbs MAX_VERBS
]

-- not all messages that a terminal may have have arrived
abbrev pub may_arrive : State → ℕ → Bool
may_arrive S terminal = elim (slice_get S.terminals terminal) [
  | None ↦ false
  | Some t ↦ nat_lt t.arrivals MAX_ARRIVALS
]

-- a verb was answered: its reply, and the unit has done one more
abbrev pub with_reply : ℕ → Reply × State → Reply × State
with_reply unit next = (next.0, with_verb unit next.1)

-- where a message comes in
abbrev pub feed_of : Net → ℕ → Option Feed
feed_of net terminal = option_and_then (λ t. t.feed) (slice_get net.terminals terminal)

-- the flag at a place
abbrev pub is_on : List Bool → ℕ → Bool
is_on flags at = unwrap_or (slice_get flags at) false

-- the terminal has a route, and its input and the route's leaf are enabled
abbrev pub is_path_open : State → ℕ → Bool
is_path_open S terminal = elim (feed_of S.net terminal) [
  | None ↦ false
  | Some feed ↦ is_on S.input_on terminal && is_on S.leaf_on feed.leaf.number
]

-- the node under which a message starts the unit, where it has a schedule
abbrev pub schedule_of : Net → ℕ → Option Node
schedule_of net unit = option_and_then (λ u. u.schedule) (slice_get net.units unit)

-- START of a unit that starts by itself, or of one whose schedule has a message
abbrev pub start : State → ℕ → Option Node → Option (Reply × State)
start S unit None = Some (Started None, with_unit_mode unit Running S)
start S unit (Some node) =
    option_map (λ leaf. (
      Started (Some (path_fields (path_of_leaf S.net.tree leaf))),
      with_unit_mode unit Running S,
    )) (chosen_leaf S.net.tree S.incoming.waiting node)

-- RECEIVE of a unit that runs: without anything to go on with, and without NO DATA, it waits
abbrev pub receive_running : State → ℕ → List ℕ → Kind → ℕ → Bool → Reply × State
receive_running S unit area kind size no_data =
    if (no_data || is_none (designated S.net.tree area)) || is_ready S unit area
    then with_reply unit (received S (receive S.net.tree S.incoming unit area kind size))
    else (Waits, with_unit_mode unit (WaitingFor area kind size) S)

-- both are MESSAGE or both are SEGMENT
abbrev pub same_kind : Kind → Kind → Bool
same_kind message_kind message_kind = true
same_kind segment_kind segment_kind = true
same_kind message_kind segment_kind = false
same_kind segment_kind message_kind = false

-- the unit waits with this RECEIVE, which has no NO DATA
abbrev pub is_waiting_for : Option UnitMode → List ℕ → Kind → ℕ → Bool → Bool
is_waiting_for (Some (WaitingFor area kind size)) other_area other_kind other_size no_data =
    ((bytes_eq area other_area && same_kind kind other_kind) && size == other_size) && not no_data
is_waiting_for _ area kind size no_data = false

-- RECEIVE of a unit that runs, or that waits with this RECEIVE and can go on
abbrev pub step_receive : State → ℕ → List ℕ → Kind → ℕ → Bool → Option (Reply × State)
step_receive S unit area kind size no_data =
    if is_running (unit_mode S unit) then Some (receive_running S unit area kind size no_data)
    else next_if (is_waiting_for (unit_mode S unit) area kind size no_data && is_ready S unit area)
    (with_reply unit (received S (receive S.net.tree S.incoming unit area kind size)))

-- a unit that can go on no further: stopped, waiting for what is not there, or not started since
-- nothing waits under the node of its schedule
abbrev pub is_unit_idle : State → ℕ → Option UnitMode → Bool
is_unit_idle S unit (Some Stopped) = true
is_unit_idle S unit (Some (WaitingFor area kind size)) = not (is_ready S unit area)
is_unit_idle S unit (Some Dormant) = elim (schedule_of S.net unit) [
  | None ↦ false
  | Some node ↦ is_none (chosen_leaf S.net.tree S.incoming.waiting node)
]
is_unit_idle S unit (Some Running) = false
is_unit_idle S unit None = true

-- a terminal that can go on no further: ended, or with a message that cannot come in
abbrev pub is_terminal_idle : State → ℕ → Option TerminalMode → Bool
is_terminal_idle S terminal (Some Ended) = true
is_terminal_idle S terminal (Some Holding) = not (is_path_open S terminal)
is_terminal_idle S terminal (Some Feeding) = false
is_terminal_idle S terminal None = true

-- nothing can happen any more
abbrev pub is_idle : State → Bool
is_idle S =
    list_all (λ unit. is_unit_idle S unit (unit_mode S unit)) (range_with_len 0 (length S.units))
    && list_all (λ terminal. is_terminal_idle S terminal (terminal_mode S terminal))
    (range_with_len 0 (length S.terminals))

-- the unit stops, and what it holds and has begun to send is gone
abbrev pub stop_unit : State → ℕ → State
stop_unit S unit = with_unit_mode unit Stopped (record S {
  incoming = record S.incoming { held = without_unit unit S.incoming.held };
  outgoing = drop_unit unit S.outgoing;
})

-- the unit waits, or has not started: it does not stop by itself there
abbrev pub waits_or_sleeps : Option UnitMode → Bool
waits_or_sleeps (Some Dormant) = true
waits_or_sleeps (Some (WaitingFor area kind size)) = true
waits_or_sleeps _ = false

-- STOP IDLE needs an idle system, and the other reasons a unit that runs
abbrev pub may_stop : State → ℕ → StopReason → Bool
may_stop S unit stop.Run = is_running (unit_mode S unit)
may_stop S unit stop.Limit = is_running (unit_mode S unit)
may_stop S unit stop.DataFault = is_running (unit_mode S unit)
may_stop S unit stop.Idle = is_idle S && waits_or_sleeps (unit_mode S unit)

-- END IDLE needs an idle system and a terminal that holds, and the other reasons one that feeds
abbrev pub may_finish : State → ℕ → EndReason → Bool
may_finish S terminal finish.End = is_feeding (terminal_mode S terminal)
may_finish S terminal (finish.Frame fault) = is_feeding (terminal_mode S terminal)
may_finish S terminal finish.Fault = is_feeding (terminal_mode S terminal)
may_finish S terminal finish.Long = is_feeding (terminal_mode S terminal)
may_finish S terminal finish.Idle = is_idle S && is_holding (terminal_mode S terminal)

-- a message comes in: it gets the next arrival number and goes after those that wait
abbrev pub arrived_message : State → ℕ → Moment → RawMessage → List ℕ → Message
arrived_message S terminal stamp message name = record {
  source = name;
  arrival = S.arrivals + 1;
  stamp = stamp;
  segments = message.segments;
  end = message.end;
}

-- ARRIVE: the message waits after all others, and the terminal feeds
abbrev pub arrive : State → ℕ → List ℕ → Moment → RawMessage → Feed → Reply × State
arrive S terminal name stamp message feed =
    let here : Waiting = record {
      leaf = feed.leaf;
      message = arrived_message S terminal stamp message name;
    } in (
      Arrived (S.arrivals + 1),
      with_arrival terminal (record S {
        incoming = record S.incoming { waiting = S.incoming.waiting ++ here ∷ [] };
        arrivals = S.arrivals + 1;
      }),
    )

-- there is such a terminal, and it has not ended
abbrev pub is_feeding_or_holding : Option TerminalMode → Bool
is_feeding_or_holding mode = is_feeding mode || is_holding mode

-- a verb of a unit that runs and has not done all its verbs
abbrev pub verb : State → ℕ → Reply × State → Option (Reply × State)
verb S unit next =
    next_if (is_running (unit_mode S unit) && may_do_verb S unit) (with_reply unit next)

-- the calls of units
abbrev pub unit_step : State → ℕ → Call → Option (Reply × State)
unit_step S unit Start =
    if is_dormant (unit_mode S unit) then start S unit (schedule_of S.net unit) else None
unit_step S unit (Receive area kind size no_data) =
    if may_do_verb S unit then step_receive S unit area kind size no_data else None
unit_step S unit (Count area) = verb S unit (AreaIn (count S.net.tree S.incoming area), S)
unit_step S unit (Send area part item) = verb S unit
    (answered S (send (destinations_of S.net) S.outgoing unit area part item))
unit_step S unit (SwitchInput on terminal area key) =
    verb S unit (switch_input S on terminal area key)
unit_step S unit (SwitchOutput on area key) = verb S unit
    (answered S (switch_output (destinations_of S.net) S.outgoing on area key))
unit_step S unit (Stop reason) = next_if (may_stop S unit reason) (Done, stop_unit S unit)
unit_step S unit (Arrive stamp message) = None
unit_step S unit IsHeld = None
unit_step S unit (Finish reason) = None

-- the calls of terminals
abbrev pub terminal_step : State → ℕ → List ℕ → Call → Option (Reply × State)
terminal_step S terminal name (Arrive stamp message) = elim (feed_of S.net terminal) [
  | None ↦ None
  | Some feed ↦ next_if
      ((is_path_open S terminal && is_feeding_or_holding (terminal_mode S terminal))
      && may_arrive S terminal) (arrive S terminal name stamp message feed)
]
terminal_step S terminal name IsHeld =
    next_if (((is_some (feed_of S.net terminal) && is_feeding (terminal_mode S terminal))
    && not (is_path_open S terminal)) && may_arrive S terminal)
    (Done, with_terminal_mode terminal Holding S)
terminal_step S terminal name (Finish reason) =
    next_if (may_finish S terminal reason) (Done, with_terminal_mode terminal Ended S)
terminal_step S terminal name Start = None
terminal_step S terminal name (Receive area kind size no_data) = None
terminal_step S terminal name (Count area) = None
terminal_step S terminal name (Send area part item) = None
terminal_step S terminal name (SwitchInput on is_terminal area key) = None
terminal_step S terminal name (SwitchOutput on area key) = None
terminal_step S terminal name (Stop reason) = None

-- what a call is answered and the state after it; undefined where there is no case, and for a
-- party that the network has not
unfoldable pub step : State → Party → Call → Option (Reply × State)
step S (party.Unit name) call =
    option_and_then (λ unit. unit_step S unit call) (unit_number S.net name)
step S (party.Terminal name) call =
    option_and_then (λ terminal. terminal_step S terminal name call) (terminal_number S.net name)
