use Rattle.std.proofs.Common.{map, take, length, ◌-◌, ◌≤◌}
use Rattle.cob_code.specs.inner.Numbers.{AreNumbered}
use Rattle.cob_code.proofs.numbers.numbers_of.Given as goal

abbrev pub invariant-names : goal.invariant-names
invariant-names l = record {
  within : l.at ≤ length l.names;
  numbered : AreNumbered l.numbers (map (λ name. name.now) (take l.at l.names));
}

abbrev pub decreases-names : goal.decreases-names
decreases-names l = length l.names - l.at
