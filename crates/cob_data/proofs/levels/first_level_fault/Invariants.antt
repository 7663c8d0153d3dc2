use Rattle.std.proofs.Common.{◌≡◌, [], drop}
use Rattle.cob_forms.specs.Faults.{earlier, first}
use Rattle.cob_data.specs.Faults.{level_faults}
use Rattle.cob_data.specs.OpenLevels.{open_faults}
use Rattle.cob_data.proofs.levels.first_level_fault.Given as goal

abbrev pub invariant-items : goal.invariant-items
invariant-items l = earlier l.found (first (open_faults l.over_cd l.levels (drop l.item-index l.items))) ≡ first (level_faults l.over_cd [] l.items)
