-- What private functions say of a call that may wait.
use Rattle.std.specs.Prelude.{◌≡◌, ℕ, ◌-◌, ◌<◌, ◌≤◌, ◌⊎◌, Bool, true, false, IsTrue, is_some, List, length, Some}
use Rattle.com_net.specs.declared.net.Net.{Net}
use Rattle.com_events.specs.declared.call.Call.{Call}
use Rattle.com_events.specs.declared.call.Call.TheVariants.{Start, Receive, Arrive, Held, Stop, Finish}
use Rattle.com_events.specs.declared.call.StopReason.TheVariants as stop
use Rattle.com_events.specs.declared.call.EndReason.TheVariants as finish
use Rattle.com_events.specs.declared.reply.Reply.TheVariants.{Waits, Done}
use Rattle.com_events.specs.Calls.{IsReplyTo}
use Rattle.com_state.specs.declared.parties.TheConstants.{MAX_VERBS, MAX_ARRIVALS}
use Rattle.com_state.specs.declared.parties.UnitMode.TheVariants.{Dormant, Running}
use Rattle.com_state.specs.State.{State}
use Rattle.com_state.specs.Answers.{is_ready}
use Rattle.com_state.specs.Steps.{step, is_path_open, feed_of}
use Rattle.com_state.specs.Waits.{has_start}
use Rattle.com_shared.specs.Parties.{party_at}
use Rattle.com_shared.specs.Passes.{Log, Place, PassOf, own, IsPass, EndsWith, entry_at, IsMade, WasIdle, IsRoundOver, unit_now, terminal_now}
use Rattle.com_shared.specs.inner.Turns.{IsAtTurn}
use Rattle.com_shared.specs.declared.waits.Approach.{Approach}
use Rattle.com_shared.specs.declared.waits.Approach.TheVariants as looked
use Rattle.com_shared.specs.declared.waits.Reached.{Reached}
use Rattle.com_shared.specs.declared.waits.Reached.TheVariants as reached

-- the call by which a party that waits with another stops or ends in an idle system
abbrev pub idle_call : Call → Call
idle_call (Arrive stamp message) = Finish finish.Idle
idle_call _ = Stop stop.Idle

-- a call that is answered DONE
abbrev pub IsAnsweredDone : Call → Type 0
IsAnsweredDone Held = Unit {0}
IsAnsweredDone (Stop reason) = Unit {0}
IsAnsweredDone (Finish reason) = Unit {0}
IsAnsweredDone _ = ⊥

-- what the call waits for
abbrev pub is_there : Net → ℕ → Call → State → Bool
is_there net number Start S = has_start S number
is_there net number (Receive area kind size no_data) S = is_ready S number area
is_there net number (Arrive stamp message) S = is_path_open S (number - length net.units)
is_there net number _ S = true

-- the party waits with this call
abbrev pub Awaits : Net → Call → PassOf → Type 0
Awaits net Start pass = (unit_now pass).mode ≡ Dormant
Awaits net (Receive area kind size no_data) pass = (no_data ≡ false)
    × EndsWith (own pass) (entry_at net pass.number (Receive area kind size false) Waits)
Awaits net (Arrive stamp message) pass = EndsWith (own pass) (entry_at net pass.number Held Done)
Awaits net _ pass = ⊥

-- the party may make this call, now or when it is allowed
abbrev pub Approaches : Net → Call → PassOf → Type 0
Approaches net Start pass = (pass.number < length net.units) × Awaits net Start pass
Approaches net (Receive area kind size no_data) pass = (pass.number < length net.units)
    × ((unit_now pass).verbs < MAX_VERBS)
    × (((unit_now pass).mode ≡ Running) ⊎ Awaits net (Receive area kind size no_data) pass)
Approaches net (Arrive stamp message) pass = (length net.units ≤ pass.number)
    × ((terminal_now pass).arrivals < MAX_ARRIVALS) × Awaits net (Arrive stamp message) pass
Approaches net _ pass = ⊥

-- The call is allowed, and the pass at its turn.
pub record IsAllowed (place : Place) (active : Bool) (call : Call) (before : PassOf) (book : Log) (after : PassOf) : Type 0 where
  pub turn : IsAtTurn place after book
  pub allowed : IsTrue (is_some (step book.state (party_at book.net after.number) call))
  pub own_same : own after ≡ own before
  pub was : after.active ≡ true → active ≡ true

-- The party waited in an idle system, and stopped or ended.
pub record HasStopped (place : Place) (active : Bool) (call : Call) (before after : PassOf) : Type 0 where
  pub pass : IsPass place after
  pub awaits : Awaits place.net call before
  pub made : IsMade place.net (idle_call call) Done before after
  pub idle : WasIdle place.net after
  pub active_is : after.active ≡ active

-- The party waits, and nobody is active.
pub record IsOver (place : Place) (call : Call) (before after : PassOf) : Type 0 where
  pub pass : IsPass place after
  pub awaits : Awaits place.net call before
  pub own_same : own after ≡ own before
  pub over : IsRoundOver place.net (is_there place.net before.number call) after

-- The party waits on.
pub record WaitsOn (place : Place) (before after : PassOf) : Type 0 where
  pub pass : IsPass place after
  pub own_same : own after ≡ own before
  pub inactive : after.active ≡ false

-- No entry was made.
pub record HasNotMade (place : Place) (active : Bool) (before after : PassOf) : Type 0 where
  pub pass : IsPass place after
  pub own_same : own after ≡ own before
  pub active_is : after.active ≡ active

-- one look
abbrev pub HasApproached : Place → Bool → Call → PassOf → Approach → PassOf → Type 0
HasApproached place active call before (looked.Allowed book) after =
    IsAllowed place active call before book after
HasApproached place active call before looked.Idle after =
    HasStopped place active call before after
HasApproached place active call before looked.RoundOver after = IsOver place call before after
HasApproached place active call before (looked.Rests rung) after = WaitsOn place before after

-- looks until the call is allowed
abbrev pub HasReached : Place → Bool → Call → PassOf → Reached → PassOf → Type 0
HasReached place active call before (reached.Allowed book) after =
    IsAllowed place active call before book after
HasReached place active call before reached.Idle after =
    HasStopped place active call before after
HasReached place active call before reached.RoundOver after = IsOver place call before after
