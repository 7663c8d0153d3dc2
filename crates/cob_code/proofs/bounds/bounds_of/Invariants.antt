use Rattle.std.proofs.Common.{◌≡◌, ℕ, ◌<◌, ◌≤◌, length, take}
use Rattle.std.specs.List.{list_all}
use Rattle.cob_code.specs.inner.Bounds.{keeps, stays_in}
use Rattle.cob_code.proofs.bounds.bounds_of.Given as goal

abbrev pub invariant-performs : goal.invariant-performs
invariant-performs l = record {
  same : length l.bounds.items ≡ l.limit;
  each : (from to : ℕ) → from < l.limit → to ≤ l.limit → keeps l.bounds.items from to ≡ list_all (stays_in from to) (take l.range-index l.ranges);
}
