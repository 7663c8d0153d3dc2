-- What a history comes to: its counts, why its parties are done, and whether an input ended in a fault.
use Rattle.std.specs.Prelude.{ℕ, Bool, true, false, List, [], ◌∷◌, Option, Some, None, if◌then◌else◌, count_by}
use Rattle.std.specs.Option.{option_or}
use Rattle.std.specs.List.{list_any}
use Rattle.std.specs.Str.{bytes_eq}
use Rattle.com_events.specs.declared.call.Party.{Party}
use Rattle.com_events.specs.declared.call.Party.TheVariants as party
use Rattle.com_events.specs.declared.call.StopReason.{StopReason}
use Rattle.com_events.specs.declared.call.EndReason.{EndReason}
use Rattle.com_events.specs.declared.call.EndReason.TheVariants as finish
use Rattle.com_events.specs.declared.call.Call.{Call}
use Rattle.com_events.specs.declared.call.Call.TheVariants.{Arrive, Stop, Finish}
use Rattle.com_events.specs.declared.reply.Reply.{Reply}
use Rattle.com_events.specs.declared.reply.Reply.TheVariants.{Given}
use Rattle.com_events.specs.declared.entry.Entry.{Entry}
use Rattle.mcs_top.specs.declared.ends.Verdict.{Verdict}
use Rattle.mcs_top.specs.declared.ends.Verdict.TheVariants.{Sound, Faulty}

-- ARRIVE
abbrev pub is_arrival : Call → Bool
is_arrival (Arrive stamp message) = true
is_arrival _ = false

-- TEXT
abbrev pub is_portion : Reply → Bool
is_portion (Given area text) = true
is_portion _ = false

abbrev pub arrivals : List Entry → ℕ
arrivals history = count_by (λ entry. is_arrival entry.call) history

abbrev pub portions : List Entry → ℕ
portions history = count_by (λ entry. is_portion entry.reply) history

-- why the unit of this name stops, where the call is its STOP
abbrev pub stop_by : List ℕ → Party → Call → Option StopReason
stop_by name (party.Unit other) (Stop reason) = if bytes_eq name other then Some reason else None
stop_by name _ _ = None

-- why the terminal of this name ends, where the call is its END
abbrev pub end_by : List ℕ → Party → Call → Option EndReason
end_by name (party.Terminal other) (Finish reason) =
    if bytes_eq name other then Some reason else None
end_by name _ _ = None

-- what the first entry tells that tells something
abbrev pub first_told : {X : Type 0} → (Entry → Option X) → List Entry → Option X
first_told tells [] = None
first_told tells (entry ∷ history) = option_or (tells entry) (first_told tells history)

-- why a unit stops, by its first STOP; none where it has none
abbrev pub stop_reason : List ℕ → List Entry → Option StopReason
stop_reason name history = first_told (λ entry. stop_by name entry.party entry.call) history

-- why a terminal ends, by its first END; none where it has none
abbrev pub end_reason : List ℕ → List Entry → Option EndReason
end_reason name history = first_told (λ entry. end_by name entry.party entry.call) history

-- FRAME, FAULT and LONG: the input ended in a fault
abbrev pub is_fault_reason : EndReason → Bool
is_fault_reason (finish.Frame fault) = true
is_fault_reason finish.Fault = true
is_fault_reason finish.Long = true
is_fault_reason finish.End = false
is_fault_reason finish.Idle = false

-- an END with such a reason
abbrev pub is_fault_end : Call → Bool
is_fault_end (Finish reason) = is_fault_reason reason
is_fault_end _ = false

-- faulty exactly where some input ended in a fault
abbrev pub verdict_of : List Entry → Verdict
verdict_of history =
    if list_any (λ entry. is_fault_end entry.call) history then Faulty else Sound
