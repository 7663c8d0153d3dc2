-- The wait of a terminal for its path.
use Rattle.std.specs.Prelude.{◌≡◌, ℕ, ◌-◌, Bool, true, false, IsTrue, is_some, List, [], length, Option, Some, None}
use Rattle.com_msg.specs.declared.message.RawMessage.{RawMessage}
use Rattle.com_msg.specs.declared.message.End.TheVariants.{Emi}
use Rattle.com_events.specs.declared.call.Call.{Call}
use Rattle.com_events.specs.declared.call.Call.TheVariants.{Arrive}
use Rattle.com_events.specs.declared.reply.Reply.{Reply}
use Rattle.com_events.specs.declared.reply.Reply.TheVariants.{Arrived}
use Rattle.com_state.specs.Steps.{step, is_path_open}
use Rattle.com_shared.specs.Parties.{party_at}
use Rattle.com_shared.specs.Passes.{Log, Place, PassOf, own, IsPass, WasIdle, IsRoundOver}
use Rattle.com_shared.specs.Waits.{held_entry, end_entry, HasWait, MayHaveWaited, IsStopped}
use Rattle.com_shared.specs.inner.Turns.{IsAtTurn}
use Rattle.com_shared.specs.inner.Waits.{Approaches}
use Rattle.com_shared.specs.declared.waits.Reached.{Reached}
use Rattle.com_shared.specs.declared.waits.Reached.TheVariants as reached

-- the call is an ARRIVE
abbrev pub IsArrival : Call → Type 0
IsArrival (Arrive stamp message) = Unit {0}
IsArrival _ = ⊥

-- the message of an ARRIVE
abbrev pub message_in : Call → RawMessage
message_in (Arrive stamp message) = message
message_in _ = record { segments = []; end = Emi }

-- the reply has a number
abbrev pub is_arrived : Reply → Bool
is_arrived (Arrived number) = true
is_arrived _ = false

-- The path is open, and the pass at its turn.
pub record IsOpen (place : Place) (active : Bool) (call : Call) (before : PassOf) (book : Log) (after : PassOf) : Type 0 where
  pub turn : IsAtTurn place after book
  pub allowed : IsTrue (is_some (step book.state (party_at book.net after.number) call))
  pub waited : MayHaveWaited (held_entry place.net before.number) (own before) (own after)
  pub was : after.active ≡ true → active ≡ true

-- The terminal holds its message, and may wait for its path.
pub record IsHeld (place : Place) (active : Bool) (call : Call) (before after : PassOf) : Type 0 where
  pub pass : IsPass place after
  pub waited : HasWait (held_entry place.net before.number) (own before) (own after)
  pub approaches : Approaches place.net call after
  pub was : after.active ≡ true → active ≡ true

-- what the first turn comes to
abbrev pub HasHeld : Place → Bool → Call → PassOf → Option Log → PassOf → Type 0
HasHeld place active call before (Some book) after = IsOpen place active call before book after
HasHeld place active call before None after = IsHeld place active call before after

-- The terminal held its message in an idle system, and ended.
pub record HasEnded (place : Place) (active : Bool) (before after : PassOf) : Type 0 where
  pub pass : IsPass place after
  pub stopped : IsStopped (held_entry place.net before.number) (end_entry place.net before.number) before after
  pub idle : WasIdle place.net after
  pub active_is : after.active ≡ active

-- The terminal holds its message, and nobody is active.
pub record HoldsOn (place : Place) (before after : PassOf) : Type 0 where
  pub pass : IsPass place after
  pub waited : HasWait (held_entry place.net before.number) (own before) (own after)
  pub over : IsRoundOver place.net (λ S. is_path_open S (before.number - length place.net.units)) after

-- what waiting for the path comes to
abbrev pub HasComeTo : Place → Bool → Call → PassOf → Reached → PassOf → Type 0
HasComeTo place active call before (reached.Allowed book) after =
    IsOpen place active call before book after
HasComeTo place active call before reached.Idle after = HasEnded place active before after
HasComeTo place active call before reached.RoundOver after = HoldsOn place before after

-- Memory ran out, maybe when the message was held.
pub record HasNotCome (place : Place) (active : Bool) (before after : PassOf) : Type 0 where
  pub pass : IsPass place after
  pub waited : MayHaveWaited (held_entry place.net before.number) (own before) (own after)
  pub active_is : after.active ≡ active
