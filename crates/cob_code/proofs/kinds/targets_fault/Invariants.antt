use Rattle.std.proofs.Common.{◌≡◌, drop}
use Rattle.std.specs.Prelude.{flat_map}
use Rattle.cob_forms.specs.Faults.{earlier, first}
use Rattle.cob_meaning.specs.Names.{any_item, identifier_faults}
use Rattle.cob_code.proofs.kinds.targets_fault.Given as goal

abbrev pub invariant-targets : goal.invariant-targets
invariant-targets l = earlier l.found (first (flat_map (identifier_faults l.names any_item) (drop l.target-index l.targets))) ≡ first (flat_map (identifier_faults l.names any_item) l.targets)
