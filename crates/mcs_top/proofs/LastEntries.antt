-- The entries that stop a unit or end a terminal tell of it what the whole history tells.
use Rattle.std.proofs.Common.{◌≡◌, ℕ, false, List, [], ◌∷◌, Option, None, refl, sym, ap, inl, inr}
use Rattle.std.specs.Option.{option_or}
use Rattle.std.specs.List.{filter, list_any}
use Rattle.std.proofs.lemmas.Bool.{cases_Bool, false≢true}
use Rattle.com_events.specs.declared.call.Party.{Party}
use Rattle.com_events.specs.declared.call.Party.TheVariants as party
use Rattle.com_events.specs.declared.call.Call.{Call}
use Rattle.com_events.specs.declared.call.Call.TheVariants.{Start, Receive, Count, Send, SwitchInput, SwitchOutput, Arrive, Held, Stop, Finish}
use Rattle.com_events.specs.declared.entry.Entry.{Entry}
use Rattle.mcs_top.specs.Histories.{stop_by, end_by, first_told, stop_reason, end_reason, is_fault_end, verdict_of}
use Rattle.mcs_top.specs.Running.{is_last_call}

-- the entries that stop a unit or end a terminal
abbrev pub ends_of : List Entry → List Entry
ends_of history = filter (λ entry. is_last_call entry.call) history

no_stop : (name : List ℕ) (who : Party) (call : Call) → is_last_call call ≡ false → stop_by name who call ≡ None
no_stop name (party.Unit unit) Start e = refl
no_stop name (party.Unit unit) (Receive area kind size no_data) e = refl
no_stop name (party.Unit unit) (Count area) e = refl
no_stop name (party.Unit unit) (Send area part item) e = refl
no_stop name (party.Unit unit) (SwitchInput on terminal area key) e = refl
no_stop name (party.Unit unit) (SwitchOutput on area key) e = refl
no_stop name (party.Unit unit) (Arrive stamp message) e = refl
no_stop name (party.Unit unit) Held e = refl
no_stop name (party.Unit unit) (Stop reason) e = absurd (false≢true (sym e))
no_stop name (party.Unit unit) (Finish reason) e = refl
no_stop name (party.Terminal terminal) call e = refl

no_end : (name : List ℕ) (who : Party) (call : Call) → is_last_call call ≡ false → end_by name who call ≡ None
no_end name (party.Unit unit) call e = refl
no_end name (party.Terminal terminal) Start e = refl
no_end name (party.Terminal terminal) (Receive area kind size no_data) e = refl
no_end name (party.Terminal terminal) (Count area) e = refl
no_end name (party.Terminal terminal) (Send area part item) e = refl
no_end name (party.Terminal terminal) (SwitchInput on input area key) e = refl
no_end name (party.Terminal terminal) (SwitchOutput on area key) e = refl
no_end name (party.Terminal terminal) (Arrive stamp message) e = refl
no_end name (party.Terminal terminal) Held e = refl
no_end name (party.Terminal terminal) (Stop reason) e = refl
no_end name (party.Terminal terminal) (Finish reason) e = absurd (false≢true (sym e))

no_fault_end : (call : Call) → is_last_call call ≡ false → is_fault_end call ≡ false
no_fault_end Start e = refl
no_fault_end (Receive area kind size no_data) e = refl
no_fault_end (Count area) e = refl
no_fault_end (Send area part item) e = refl
no_fault_end (SwitchInput on terminal area key) e = refl
no_fault_end (SwitchOutput on area key) e = refl
no_fault_end (Arrive stamp message) e = refl
no_fault_end Held e = refl
no_fault_end (Stop reason) e = refl
no_fault_end (Finish reason) e = absurd (false≢true (sym e))

-- what others tell nothing of, the entries that tell tell alone
told_by_ends : {X : Type 0} (tells : Entry → Option X) → ((entry : Entry) → is_last_call entry.call ≡ false → tells entry ≡ None) → (history : List Entry) → first_told tells (ends_of history) ≡ first_told tells history
told_by_ends {X} tells silent [] = refl
told_by_ends {X} tells silent (entry ∷ history) = elim (cases_Bool (is_last_call entry.call)) [
  | inl last ↦ rw last (ap (option_or (tells entry)) (told_by_ends tells silent history))
  | inr other ↦ rw (other, silent entry other) (told_by_ends tells silent history)
]

pub stopped_by_ends : (name : List ℕ) (history : List Entry) → stop_reason name (ends_of history) ≡ stop_reason name history
stopped_by_ends name history = told_by_ends (λ entry. stop_by name entry.party entry.call) (λ entry other. no_stop name entry.party entry.call other) history

pub ended_by_ends : (name : List ℕ) (history : List Entry) → end_reason name (ends_of history) ≡ end_reason name history
ended_by_ends name history = told_by_ends (λ entry. end_by name entry.party entry.call) (λ entry other. no_end name entry.party entry.call other) history

faults_in_ends : (history : List Entry) → list_any (λ entry. is_fault_end entry.call) (ends_of history) ≡ list_any (λ entry. is_fault_end entry.call) history
faults_in_ends [] = refl
faults_in_ends (entry ∷ history) = elim (cases_Bool (is_last_call entry.call)) [
  | inl last ↦ rw (last, faults_in_ends history) refl
  | inr other ↦ rw (other, no_fault_end entry.call other) (faults_in_ends history)
]

pub judged_by_ends : (history : List Entry) → verdict_of (ends_of history) ≡ verdict_of history
judged_by_ends history = rw (faults_in_ends history) refl
