-- What a step leaves as it was, for the laws on all states.
use Rattle.std.specs.Prelude.{◌≡◌, ℕ, ◌≤◌, ◌⊎◌, Bool, true, false, ◌==◌, List, [], length, Option, Some, None, option_map, slice_get, unwrap_or}
use Rattle.std.specs.List.{filter}
use Rattle.com_events.specs.declared.call.Call.{Call}
use Rattle.com_events.specs.declared.call.Call.TheVariants.{Receive, Count, Send, SwitchInput, SwitchOutput, Arrive, Stop, Finish}
use Rattle.com_events.specs.declared.call.StopReason.TheVariants as stop
use Rattle.com_events.specs.declared.call.EndReason.TheVariants as finish
use Rattle.com_events.specs.declared.reply.Reply.{Reply}
use Rattle.com_events.specs.declared.reply.Reply.TheVariants.{Refused, AreaIn, AreaOut}
use Rattle.com_cd.specs.InputArea.{in_field}
use Rattle.com_cd.specs.OutputArea.{out_field}
use Rattle.com_cd.specs.Status.{status_bytes, with_input_status, with_output_status}
use Rattle.com_cd.specs.declared.status.Status.{Status}
use Rattle.com_cd.specs.declared.status.Status.TheVariants.{S20, S30, S40, S50, S60}
use Rattle.com_cd.specs.declared.input_area.InField.TheVariants as field
use Rattle.com_cd.specs.declared.output_area.OutField.TheVariants as out
use Rattle.com_msg.specs.declared.sending.OutMessage.{OutMessage}
use Rattle.com_recv.specs.declared.lists.Held.{Held}
use Rattle.com_state.specs.State.{State}
use Rattle.com_events.specs.Fronts.{IsPrefixOf}

-- ARRIVE
abbrev pub is_arrival : Call → Bool
is_arrival (Arrive stamp message) = true
is_arrival _ = false

-- ENABLE OUTPUT
abbrev pub enables_output : Call → Bool
enables_output (SwitchOutput on area key) = on
enables_output _ = false

-- what a unit holds
abbrev pub rests_of : State → ℕ → List Held
rests_of S unit = filter (λ h. h.unit == unit) S.incoming.held

-- what is queued for a terminal
abbrev pub queue_for : State → ℕ → List OutMessage
queue_for S terminal =
    unwrap_or (option_map (λ destination. destination.queued) (slice_get S.outgoing terminal)) []

-- What holds of each step: the net stays, only ARRIVE makes more messages wait, and only ENABLE
-- OUTPUT takes a message out of what is queued for a terminal.
pub record Keeps (S : State) (call : Call) (next : State) : Type 0 where
  pub net : next.net ≡ S.net
  pub waiting : (is_arrival call ≡ true) ⊎ (length next.incoming.waiting ≤ length S.incoming.waiting)
  pub queued : (enables_output call ≡ true)
      ⊎ ((terminal : ℕ) → IsPrefixOf (queue_for S terminal) (queue_for next terminal))

-- the status keys that tell that a call was not done
abbrev pub is_refusal : Call → Status → Bool
is_refusal (Receive area kind size no_data) S20 = true
is_refusal (Count area) S20 = true
is_refusal (Send area part item) S30 = true
is_refusal (Send area part item) S50 = true
is_refusal (Send area part item) S60 = true
is_refusal (SwitchInput on terminal area key) S20 = true
is_refusal (SwitchInput on terminal area key) S40 = true
is_refusal (SwitchOutput on area key) S30 = true
is_refusal (SwitchOutput on area key) S40 = true
is_refusal _ _ = false

-- the reply's area tells this status key; what gives a portion, or says that there is none, is no
-- refusal
abbrev pub Tells : Reply → Status → Type 0
Tells (Refused after) status = in_field field.Status after ≡ status_bytes status
Tells (AreaIn after) status = in_field field.Status after ≡ status_bytes status
Tells (AreaOut after) status = out_field out.Status after ≡ status_bytes status
Tells _ status = ⊥

-- the call's own area with this status key in it, and all else as it was
abbrev pub with_status_alone : Call → Status → Option Reply
with_status_alone (Receive area kind size no_data) status =
    Some (Refused (with_input_status status area))
with_status_alone (Count area) status =
    Some (AreaIn (with_input_status status area))
with_status_alone (Send area part item) status =
    Some (AreaOut (with_output_status status area))
with_status_alone (SwitchInput on terminal area key) status =
    Some (AreaIn (with_input_status status area))
with_status_alone (SwitchOutput on area key) status =
    Some (AreaOut (with_output_status status area))
with_status_alone _ status = None

-- What a refusal changes: of the area the status key alone, and of the system only the number of
-- verbs of the unit.
pub record ChangesStatusAlone (S : State) (call : Call) (status : Status) (reply : Reply)
    (next : State) : Type 0 where
  pub area : with_status_alone call status ≡ Some reply
  pub state : next ≡ record S { units = next.units }

-- STOP IDLE and END IDLE
abbrev pub is_idle_call : Call → Bool
is_idle_call (Stop stop.Idle) = true
is_idle_call (Finish finish.Idle) = true
is_idle_call _ = false
