-- A step is that of a unit or of a terminal.
use Rattle.std.proofs.Common.{◌≡◌, ℕ, List, Some, None, refl, inl, inr}
use Rattle.std.proofs.lemmas.Option.{none-some}
use Rattle.com_events.specs.declared.call.Party.TheVariants as party
use Rattle.com_events.specs.declared.call.Call.{Call}
use Rattle.com_events.specs.declared.reply.Reply.{Reply}
use Rattle.com_net.specs.Numbers.{unit_number, terminal_number}
use Rattle.com_state.specs.State.{State}
use Rattle.com_state.specs.Steps.{step, unit_step, terminal_step}
use Rattle.com_state.proofs.Frames.{option_cases}

-- the step of a unit that the network has
pub step_of_unit : (S : State) (name : List ℕ) (call : Call) (reply : Reply) (next : State) → step S (party.Unit name) call ≡ Some (reply, next)
    → (unit : ℕ) × (unit_number S.net name ≡ Some unit) × (unit_step S unit call ≡ Some (reply, next))
unfolding step
step_of_unit S name call reply next h = elim (option_cases (unit_number S.net name)) [
  | inl none ↦ absurd (none-some (reply, next) (rw (none, step) at h))
  | inr some ↦ (some.0, some.1, rw (some.1, step) at h)
]

pub step_of_terminal : (S : State) (name : List ℕ) (call : Call) (reply : Reply) (next : State) → step S (party.Terminal name) call ≡ Some (reply, next)
    → (terminal : ℕ) × (terminal_number S.net name ≡ Some terminal) × (terminal_step S terminal name call ≡ Some (reply, next))
unfolding step
step_of_terminal S name call reply next h = elim (option_cases (terminal_number S.net name)) [
  | inl none ↦ absurd (none-some (reply, next) (rw (none, step) at h))
  | inr some ↦ (some.0, some.1, rw (some.1, step) at h)
]

-- the step of a unit by its number
pub unit_of_step : (S : State) (name : List ℕ) (unit : ℕ) (call : Call) (reply : Reply) (next : State) → unit_number S.net name ≡ Some unit → step S (party.Unit name) call ≡ Some (reply, next)
    → unit_step S unit call ≡ Some (reply, next)
unfolding step
unit_of_step S name unit call reply next found h = rw (found, step) at h

-- a step is that of the unit or terminal with this name
pub unit_steps : (S : State) (name : List ℕ) (unit : ℕ) (call : Call) → unit_number S.net name ≡ Some unit → step S (party.Unit name) call ≡ unit_step S unit call
unfolding step
unit_steps S name unit call found = rw (found, step) refl

pub terminal_steps : (S : State) (name : List ℕ) (terminal : ℕ) (call : Call) → terminal_number S.net name ≡ Some terminal → step S (party.Terminal name) call ≡ terminal_step S terminal name call
unfolding step
terminal_steps S name terminal call found = rw (found, step) refl

-- a party that the network has not has no step
pub no_unit_steps : (S : State) (name : List ℕ) (call : Call) → unit_number S.net name ≡ None → step S (party.Unit name) call ≡ None
unfolding step
no_unit_steps S name call none = rw (none, step) refl

pub no_terminal_steps : (S : State) (name : List ℕ) (call : Call) → terminal_number S.net name ≡ None → step S (party.Terminal name) call ≡ None
unfolding step
no_terminal_steps S name call none = rw (none, step) refl
