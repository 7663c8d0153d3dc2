-- The kinds of step on the table, and what each tells. Exchanging the slot that is out changes no view.
use Rattle.std.specs.Prelude.{◌≡◌, ◌≢◌, ℕ, ◌%◌, ◌^◌, true, false, List, ◌∷◌, Option, Some, length}
use Rattle.atomic_table.specs.Table.{Me, Step, rest}
use Rattle.com_turn.specs.declared.view.Stage.TheVariants.{Idle, Waiting}
use Rattle.com_turn.specs.declared.view.View.{View}
use Rattle.com_turn.specs.Histories.{HasSeen}
use Rattle.com_turn.specs.Toggles.{party_of, is_active, active_count}
use Rattle.com_turn.specs.Views.{at_stage, served, with_item, with_toggle, with_found}

-- what a step tells: of the step, the seat before, the number found and the seat after
abbrev pub Tells : Type 0 → Type 0 → Type 0 → Type 1
Tells V I B = Step (Option V) → Me (Option V) (View I B) → ℕ → Me (Option V) (View I B) → Type 0

module _ {V I B : Type 0} where
  -- the view has got a ticket, and the number found is the ticket modulo 2^64
  abbrev pub Draws : Tells V I B
  Draws step seat found after = (ticket : ℕ) × (found ≡ ticket % 2 ^ 64) × (after ≡ (at_stage (Waiting ticket) seat.0, seat.1))

  -- The view has come to its turn with this value. It has seen the value's log and all toggles, which begin with what it
  -- had seen, and in which nothing of its own is new.
  pub record IsServed (log_of : V → List I) (base_of : V → B) (owner : I → ℕ) (before : View I B) (ticket : ℕ) (value : V) (after : View I B) : Type 0 where
    pub after_is : after ≡ served ticket (log_of value) after.known.toggles before
    pub base : before.known.base ≡ Some (base_of value)
    pub items : HasSeen owner before.known.number (length before.known.opened) (log_of value) before.known.seen
    pub toggles : HasSeen party_of before.known.number 0 after.known.toggles before.known.toggles
    pub active : is_active before.known.number after.known.toggles ≡ before.active

  -- the view has come to its turn, and the slot is out with its seat
  abbrev pub Serves : (V → List I) → (V → B) → (I → ℕ) → Me (Option V) (View I B) → ℕ → Me (Option V) (View I B) → Type 0
  Serves log_of base_of owner seat ticket after =
      (value : V) × IsServed log_of base_of owner seat.0 ticket value after.0 × (after.1 ≡ (0, Some value) ∷ seat.1)

  -- where the number found is the view's own ticket it comes to its turn, and else nothing changes
  abbrev pub Looks : (V → List I) → (V → B) → (I → ℕ) → Tells V I B
  Looks log_of base_of owner step seat found after =
      (ticket : ℕ) → seat.0.stage ≡ Waiting ticket
      → (found ≡ ticket % 2 ^ 64 → Serves log_of base_of owner seat ticket after) × (found ≢ ticket % 2 ^ 64 → after ≡ seat)

  -- what the view has seen grows by the item
  abbrev pub Commits : Option I → Tells V I B
  Commits chosen step seat found after = (item : I) → chosen ≡ Some item → after ≡ (with_item item seat.0, seat.1)

  -- the slot goes home, and the view has no ticket
  abbrev pub PassesOn : Tells V I B
  PassesOn step seat found after = after ≡ (at_stage Idle seat.0, rest seat.1)

  abbrev pub Enters : Tells V I B
  Enters step seat found after = after ≡ (with_toggle true seat.0, seat.1)

  abbrev pub Leaves : Tells V I B
  Leaves step seat found after = after ≡ (with_toggle false seat.0, seat.1)

  -- the number found is that of the parties that are active by the toggles that the view has seen
  abbrev pub CountsActive : Tells V I B
  CountsActive step seat found after =
      (after ≡ (with_found found seat.0, seat.1)) × (found ≡ active_count seat.0.known.parties seat.0.known.toggles)
