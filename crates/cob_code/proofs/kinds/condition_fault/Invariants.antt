use Rattle.std.proofs.Common.{◌≡◌, drop}
use Rattle.std.specs.Prelude.{flat_map}
use Rattle.cob_forms.specs.Faults.{earlier, first}
use Rattle.cob_meaning.specs.Names.{simple_faults}
use Rattle.cob_code.proofs.kinds.condition_fault.Given as goal

abbrev pub invariant-parts : goal.invariant-parts
invariant-parts l = earlier l.found (first (flat_map (simple_faults l.names) (drop l.simple-index l.simple-items))) ≡ first (flat_map (simple_faults l.names) l.simple-items)
