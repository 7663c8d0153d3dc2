use Rattle.std.proofs.Common.{ℕ, ◌<◌, ◌≤◌, length, get_or}
use Rattle.com_tree.specs.declared.index.Place.{Place}
use Rattle.com_tree.proofs.index.apart_from.Given as goal

-- from here on no node has a leaf at or past the number
abbrev pub invariant-loop-at : goal.invariant-loop-at
invariant-loop-at l = (row : ℕ) (other : Place) → l.at ≤ row → row < length l.places → (get_or l.places row other).past ≤ l.first
