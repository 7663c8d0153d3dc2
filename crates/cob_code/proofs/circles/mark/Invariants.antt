use Rattle.std.proofs.Common.{◌≡◌, ℕ, ◌+◌, ◌<◌, ◌≤◌, ◌⊎◌, length, true}
use Rattle.cob_code.specs.inner.Sets.{IsSquare, leads}
use Rattle.cob_code.proofs.circles.mark.Given as goal

abbrev pub invariant-paragraphs : goal.invariant-paragraphs
invariant-paragraphs l = record {
  square : IsSquare (length l.initial.table) l.table;
  end : l.range.first < l.to → l.to ≤ l.range.last + 1;
  kept : (to from : ℕ) → leads l.initial.table to from ≡ true → leads l.table to from ≡ true;
  marked : (to : ℕ) → to < l.to → l.range.first ≤ to → leads l.table to l.range.from ≡ true;
  only : (to from : ℕ) → leads l.table to from ≡ true → (leads l.initial.table to from ≡ true) ⊎ ((to < l.to) × (l.range.first ≤ to) × (from ≡ l.range.from));
}
