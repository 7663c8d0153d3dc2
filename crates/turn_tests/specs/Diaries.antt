-- Passes of a diary between two calls.
use Rattle.std.specs.Prelude.{◌≡◌, ℕ, ◌+◌, false}
use Rattle.com_turn.specs.Passes.{TurnId, PassState}

-- a pass of this turn, without the turn and not active
abbrev pub IsFree : {I B : Type 0} → TurnId → PassState I B → Type 0
IsFree turn pass = (pass.turn ≡ turn) × (pass.at_turn ≡ false) × (pass.active ≡ false)

-- the pass after so many turns, in which it became neither active nor inactive
abbrev pub IsAfter : {I B : Type 0} → ℕ → PassState I B → PassState I B → Type 0
IsAfter turns before after = after ≡ record before { seen = after.seen; toggles = after.toggles; turns = before.turns + turns; found = after.found }
