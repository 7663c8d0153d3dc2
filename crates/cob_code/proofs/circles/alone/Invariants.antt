use Rattle.std.proofs.Common.{◌≡◌, ℕ, ◌<◌, length, true}
use Rattle.std.specs.List.{All}
use Rattle.cob_code.specs.inner.Sets.{leads}
use Rattle.cob_code.proofs.circles.alone.Given as goal

abbrev pub invariant-numbers : goal.invariant-numbers
invariant-numbers l = record {
  long : length l.table.items ≡ l.number;
  square : All (λ set. length set ≡ l.limit) l.table.items;
  itself : (k : ℕ) → k < l.number → leads l.table.items k k ≡ true;
  others : (to from : ℕ) → leads l.table.items to from ≡ true → to ≡ from;
}
