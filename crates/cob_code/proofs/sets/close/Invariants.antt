use Rattle.std.proofs.Common.{◌≡◌, ℕ, ◌<◌, length, true}
use Rattle.cob_code.specs.inner.Sets.{Chain, IsSquare, leads}
use Rattle.cob_code.proofs.sets.close.Given as goal

abbrev pub invariant-betweens : goal.invariant-betweens
invariant-betweens l = record {
  square : IsSquare (length l.initial.table) l.table;
  kept : (to from : ℕ) → leads l.initial.table to from ≡ true → leads l.table to from ≡ true;
  closed : (between : ℕ) → between < l.between → (to from : ℕ) → leads l.table to between ≡ true → leads l.table between from ≡ true → leads l.table to from ≡ true;
  sound : (to from : ℕ) → leads l.table to from ≡ true → Chain l.initial.table to from;
}
