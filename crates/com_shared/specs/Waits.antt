-- What calls that may wait ask of a pass, and what they leave.
use Rattle.std.specs.Prelude.{◌≡◌, ℕ, ◌-◌, ◌<◌, ◌≤◌, ◌⊎◌, Bool, true, false, List, [], ◌∷◌, ◌++◌, length, Some, None, is_some}
use Rattle.com_msg.specs.Stamp.{Moment}
use Rattle.com_msg.specs.declared.message.RawMessage.{RawMessage}
use Rattle.com_msg.specs.declared.rest.Kind.{Kind}
use Rattle.com_net.specs.declared.net.Net.{Net}
use Rattle.com_events.specs.declared.call.Call.TheVariants.{Start, Receive, Arrive, Held, Stop, Finish}
use Rattle.com_events.specs.declared.call.StopReason.TheVariants as stop
use Rattle.com_events.specs.declared.call.EndReason.TheVariants as finish
use Rattle.com_events.specs.declared.reply.Reply.TheVariants.{Started as StartedReply, Given as GivenReply, NoData as NoDataReply, Refused as RefusedReply, Waits, Arrived as ArrivedReply, Done}
use Rattle.com_events.specs.declared.entry.Entry.{Entry}
use Rattle.com_state.specs.declared.parties.TheConstants.{MAX_VERBS, MAX_ARRIVALS}
use Rattle.com_state.specs.declared.parties.UnitMode.TheVariants.{Dormant, Running}
use Rattle.com_state.specs.declared.parties.TerminalMode.TheVariants.{Feeding}
use Rattle.com_state.specs.Answers.{is_ready}
use Rattle.com_state.specs.Steps.{is_path_open, feed_of, schedule_of}
use Rattle.com_state.specs.Waits.{has_start}
use Rattle.com_shared.specs.declared.start.Started.{Started}
use Rattle.com_shared.specs.declared.start.Started.TheVariants as started
use Rattle.com_shared.specs.declared.receive.Received.{Received}
use Rattle.com_shared.specs.declared.receive.Received.TheVariants as received
use Rattle.com_shared.specs.declared.arrive.Arrived.{Arrived}
use Rattle.com_shared.specs.declared.arrive.Arrived.TheVariants as arrived
use Rattle.com_shared.specs.Passes.{PassOf, seen, own, EndsWith, entry_at, unit_now, terminal_now, IsMade, WasIdle, IsRoundOver}

-- a unit that has not started
pub record MayStart (net : Net) (pass : PassOf) : Type 0 where
  pub unit : pass.number < length net.units
  pub sleeps : (unit_now pass).mode ≡ Dormant

-- the entry by which a unit waits with a RECEIVE
abbrev pub waits_entry : Net → ℕ → List ℕ → Kind → ℕ → Entry
waits_entry net number area kind size = entry_at net number (Receive area kind size false) Waits

-- the entry by which a terminal holds a message
abbrev pub held_entry : Net → ℕ → Entry
held_entry net number = entry_at net number Held Done

-- a unit that runs, or whose last entry is the wait of this same RECEIVE, and that has not done all
-- its verbs
pub record MayReceive (net : Net) (area : List ℕ) (kind : Kind) (size : ℕ) (no_data : Bool)
    (pass : PassOf) : Type 0 where
  pub unit : pass.number < length net.units
  pub left : (unit_now pass).verbs < MAX_VERBS
  pub runs_or_waits : ((unit_now pass).mode ≡ Running)
      ⊎ ((no_data ≡ false) × EndsWith (own pass) (waits_entry net pass.number area kind size))

-- a terminal with a route that feeds, or whose last entry is its wait, and of which not all messages
-- have arrived
pub record MayArrive (net : Net) (pass : PassOf) : Type 0 where
  pub terminal : length net.units ≤ pass.number
  pub route : is_some (feed_of net (pass.number - length net.units)) ≡ true
  pub left : (terminal_now pass).arrivals < MAX_ARRIVALS
  pub feeds_or_holds : ((terminal_now pass).mode ≡ Feeding)
      ⊎ EndsWith (own pass) (held_entry net pass.number)

-- What calls that may wait leave.

-- the party's own entries end with the wait, which this call made or an earlier one
abbrev pub HasWait : Entry → List Entry → List Entry → Type 0
HasWait wait before after = (after ≡ before ++ wait ∷ [])
    ⊎ ((after ≡ before) × EndsWith before wait)

-- nothing more, or the wait alone
abbrev pub MayHaveWaited : Entry → List Entry → List Entry → Type 0
MayHaveWaited wait before after = (after ≡ before) ⊎ (after ≡ before ++ wait ∷ [])

-- The call was done: its entry is the last, and the party's own are as before, maybe with the wait,
-- and this entry.
pub record IsDone (wait entry : Entry) (before after : PassOf) : Type 0 where
  pub last : EndsWith (seen after) entry
  pub own_before : List Entry
  pub waited : MayHaveWaited wait (own before) own_before
  pub own_more : own after ≡ own_before ++ entry ∷ []

-- The party stopped or ended instead: the same, and the wait stands just before the entry.
pub record IsStopped (wait entry : Entry) (before after : PassOf) : Type 0 where
  pub last : EndsWith (seen after) entry
  pub own_before : List Entry
  pub waited : HasWait wait (own before) own_before
  pub own_more : own after ≡ own_before ++ entry ∷ []

-- the entry by which a unit stops in an idle system
abbrev pub stop_entry : Net → ℕ → Entry
stop_entry net number = entry_at net number (Stop stop.Idle) Done

-- the entry by which a terminal ends in an idle system
abbrev pub end_entry : Net → ℕ → Entry
end_entry net number = entry_at net number (Finish finish.Idle) Done

-- START
abbrev pub HasStarted : Net → PassOf → Started → PassOf → Type 0
HasStarted net before started.Plain after =
    IsMade net Start (StartedReply None) before after
    × (is_some (schedule_of net before.number) ≡ false) × (after.active ≡ before.active)
HasStarted net before (started.Named names) after =
    IsMade net Start (StartedReply (Some names)) before after
    × (is_some (schedule_of net before.number) ≡ true) × (after.active ≡ before.active)
HasStarted net before started.Idle after = IsMade net (Stop stop.Idle) Done before after
    × WasIdle net after × (after.active ≡ before.active)
HasStarted net before started.RoundOver after = (own after ≡ own before)
    × IsRoundOver net (λ S. has_start S before.number) after

-- RECEIVE, and the area that it leaves
abbrev pub HasReceived : Net → List ℕ → Kind → ℕ → Bool → PassOf → Received → List ℕ → PassOf → Type 0
HasReceived net area kind size no_data before (received.Given text) left after =
    IsDone (waits_entry net before.number area kind size)
    (entry_at net before.number (Receive area kind size no_data) (GivenReply left text)) before after
    × (after.active ≡ before.active)
HasReceived net area kind size no_data before received.NoData left after =
    IsDone (waits_entry net before.number area kind size)
    (entry_at net before.number (Receive area kind size no_data) (NoDataReply left)) before after
    × (no_data ≡ true) × (after.active ≡ before.active)
HasReceived net area kind size no_data before received.Refused left after =
    IsDone (waits_entry net before.number area kind size)
    (entry_at net before.number (Receive area kind size no_data) (RefusedReply left)) before after
    × (after.active ≡ before.active)
HasReceived net area kind size no_data before received.Idle left after =
    IsStopped (waits_entry net before.number area kind size) (stop_entry net before.number)
    before after × WasIdle net after × (left ≡ area) × (after.active ≡ before.active)
HasReceived net area kind size no_data before received.RoundOver left after =
    HasWait (waits_entry net before.number area kind size) (own before) (own after)
    × IsRoundOver net (λ S. is_ready S before.number area) after × (left ≡ area)

-- RECEIVE without memory
abbrev pub HasNotReceived : Net → List ℕ → Kind → ℕ → PassOf → List ℕ → PassOf → Type 0
HasNotReceived net area kind size before left after =
    MayHaveWaited (waits_entry net before.number area kind size) (own before) (own after)
    × (left ≡ area) × (after.active ≡ before.active)

-- ARRIVE, and the message that is handed back
abbrev pub HasArrived : Net → Moment → RawMessage → PassOf → Arrived → PassOf → Type 0
HasArrived net stamp message before (arrived.Done number) after =
    IsDone (held_entry net before.number)
    (entry_at net before.number (Arrive stamp message) (ArrivedReply number)) before after
    × (after.active ≡ before.active)
HasArrived net stamp message before arrived.Idle after =
    IsStopped (held_entry net before.number) (end_entry net before.number) before after
    × WasIdle net after × (after.active ≡ before.active)
HasArrived net stamp message before (arrived.RoundOver back) after =
    HasWait (held_entry net before.number) (own before) (own after)
    × IsRoundOver net (λ S. is_path_open S (before.number - length net.units)) after
    × (back ≡ message)

-- ARRIVE without memory
abbrev pub HasNotArrived : Net → RawMessage → PassOf → RawMessage → PassOf → Type 0
HasNotArrived net message before back after =
    MayHaveWaited (held_entry net before.number) (own before) (own after)
    × (back ≡ message) × (after.active ≡ before.active)
