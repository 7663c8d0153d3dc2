-- A unit that has stopped stays so.
use Rattle.std.proofs.Common.{◌≡◌, ℕ, Some, List, refl, sym, ap, ◌∙◌, inl, inr}
use Rattle.std.specs.Prelude.{slice_get, slice_set, option_map}
use Rattle.std.proofs.lemmas.Bool.{cases_eq}
use Rattle.std.proofs.lemmas.Option.{none-some}
use Rattle.com_state.proofs.Frames.{option_cases}
use Rattle.com_state.proofs.Places.{get_set_here, get_set_elsewhere}
use Rattle.com_state.specs.State.{State, unit_mode}
use Rattle.com_state.specs.declared.parties.UnitMode.{UnitMode}
use Rattle.com_state.specs.declared.parties.UnitState.{UnitState}
use Rattle.com_state.specs.declared.parties.TerminalMode.{TerminalMode}
use Rattle.com_state.specs.declared.parties.UnitMode.TheVariants.{Stopped}
use Rattle.com_state.specs.Steps.{with_unit_mode, with_terminal_mode, with_verb, with_arrival}

-- each unit that has stopped in one state has stopped in the other
abbrev pub StayStopped : State → State → Type 0
StayStopped S next = (unit : ℕ) → unit_mode S unit ≡ Some Stopped → unit_mode next unit ≡ Some Stopped

-- where no unit changes
pub stay_same : (S next : State) → next.units ≡ S.units → StayStopped S next
stay_same S next same = λ unit h. ap (λ units. option_map (λ (u : UnitState). u.mode) (slice_get units unit)) same ∙ h

-- over one step and another
pub stay_chain : (S mid next : State) → StayStopped S mid → StayStopped mid next → StayStopped S next
stay_chain S mid next first second = λ unit h. second unit (first unit h)

-- another unit's state is written
stay_written : (units : List UnitState) (unit other : ℕ) (u : UnitState) → (option_map (λ (u : UnitState). u.mode) (slice_get units unit) ≡ Some Stopped → ⊥)
    → option_map (λ (u : UnitState). u.mode) (slice_get units other) ≡ Some Stopped → option_map (λ (u : UnitState). u.mode) (slice_get (slice_set units unit u) other) ≡ Some Stopped
stay_written units unit other u runs h = elim (cases_eq other unit) [
  | inl same ↦ absurd (runs (ap (λ at. option_map (λ (u : UnitState). u.mode) (slice_get units at)) (sym same) ∙ h))
  | inr ne ↦ ap (option_map (λ (u : UnitState). u.mode)) (get_set_elsewhere units unit other u ne) ∙ h
]

-- where a unit that has not stopped gets another mode
pub stay_unit_mode : (unit : ℕ) (mode : UnitMode) (S : State) → (unit_mode S unit ≡ Some Stopped → ⊥) → StayStopped S (with_unit_mode unit mode S)
stay_unit_mode unit mode S runs = elim (option_cases (slice_get S.units unit)) [
  | inl none ↦ rw (none, with_unit_mode) (stay_same S S refl)
  | inr some ↦ rw (some.1, with_unit_mode) (λ other h. stay_written S.units unit other (record some.0 { mode = mode }) runs h)
]

-- where its verb is counted
pub stay_verb : (unit : ℕ) (S : State) → (unit_mode S unit ≡ Some Stopped → ⊥) → StayStopped S (with_verb unit S)
stay_verb unit S runs = elim (option_cases (slice_get S.units unit)) [
  | inl none ↦ rw (none, with_verb) (stay_same S S refl)
  | inr some ↦ rw (some.1, with_verb) (λ other h. stay_written S.units unit other _ runs h)
]

-- where a terminal changes
pub stay_terminal_mode : (terminal : ℕ) (mode : TerminalMode) (S : State) → StayStopped S (with_terminal_mode terminal mode S)
stay_terminal_mode terminal mode S = elim (option_cases (slice_get S.terminals terminal)) [
  | inl none ↦ rw (none, with_terminal_mode) (stay_same S S refl)
  | inr some ↦ rw (some.1, with_terminal_mode) (λ unit h. h)
]

-- where a message of a terminal is counted
pub stay_arrival : (terminal : ℕ) (S : State) → StayStopped S (with_arrival terminal S)
stay_arrival terminal S = elim (option_cases (slice_get S.terminals terminal)) [
  | inl none ↦ rw (none, with_arrival) (stay_same S S refl)
  | inr some ↦ rw (some.1, with_arrival) (λ unit h. h)
]

-- a unit that there is gets the mode that is set
pub mode_set : (unit : ℕ) (mode was : UnitMode) (S : State) → unit_mode S unit ≡ Some was → unit_mode (with_unit_mode unit mode S) unit ≡ Some mode
mode_set unit mode was S h = elim (option_cases (slice_get S.units unit)) [
  | inl none ↦ absurd (none-some was (sym (ap (option_map (λ (u : UnitState). u.mode)) none) ∙ h))
  | inr some ↦ rw (some.1, with_unit_mode) (ap (option_map (λ (u : UnitState). u.mode)) (get_set_here S.units unit some.0 (record some.0 { mode = mode }) some.1))
]
