use Rattle.std.proofs.Common.{◌≡◌, drop}
use Rattle.std.specs.Prelude.{flat_map}
use Rattle.cob_forms.specs.Faults.{earlier, first}
use Rattle.cob_code.specs.inner.RangeFaults.{leaving_by}
use Rattle.cob_code.proofs.checks.first_leaving.Given as goal

abbrev pub invariant-jumps : goal.invariant-jumps
invariant-jumps l = earlier l.found (first (flat_map (leaving_by l.bounds) (drop l.jump-index l.jumps))) ≡ first (flat_map (leaving_by l.bounds) l.jumps)
