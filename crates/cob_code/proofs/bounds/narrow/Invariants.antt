use Rattle.std.proofs.Common.{◌≡◌, ℕ, ◌<◌, ◌≤◌, length}
use Rattle.std.specs.Prelude.{◌&&◌}
use Rattle.cob_code.specs.inner.Bounds.{keeps, stays_in}
use Rattle.cob_code.proofs.bounds.narrow.Given as goal

abbrev pub invariant-paragraphs : goal.invariant-paragraphs
invariant-paragraphs l = record {
  same : length l.bounds ≡ length l.initial.bounds;
  before : (from to : ℕ) → from < l.from → from < length l.initial.bounds → keeps l.bounds from to ≡ (keeps l.initial.bounds from to && stays_in from to l.range);
  behind : (from to : ℕ) → l.from ≤ from → keeps l.bounds from to ≡ keeps l.initial.bounds from to;
}
