use Rattle.std.proofs.Common.{◌≡◌, ℕ, ◌<◌, ◌≤◌, ◌||◌, ◌&&◌, length}
use Rattle.cob_code.specs.inner.Sets.{IsSquare, leads}
use Rattle.cob_code.proofs.sets.pass_over.Given as goal

abbrev pub invariant-numbers : goal.invariant-numbers
invariant-numbers l = record {
  square : IsSquare (length l.initial.table) l.table;
  before : (to from : ℕ) → to < l.number → leads l.table to from ≡ (leads l.initial.table to from || (leads l.initial.table to l.between && leads l.initial.table l.between from));
  behind : (to from : ℕ) → l.number ≤ to → leads l.table to from ≡ leads l.initial.table to from;
}
