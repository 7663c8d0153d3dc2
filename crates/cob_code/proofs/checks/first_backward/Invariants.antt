use Rattle.std.proofs.Common.{◌≡◌, drop}
use Rattle.std.specs.Prelude.{flat_map}
use Rattle.cob_forms.specs.Faults.{earlier, first}
use Rattle.cob_code.specs.inner.RangeFaults.{backward}
use Rattle.cob_code.proofs.checks.first_backward.Given as goal

abbrev pub invariant-performs : goal.invariant-performs
invariant-performs l = earlier l.found (first (flat_map (backward) (drop l.range-index l.ranges))) ≡ first (flat_map (backward) l.ranges)
