use Rattle.std.proofs.Common.{◌≡◌, drop}
use Rattle.cob_forms.specs.Faults.{earlier, first}
use Rattle.cob_data.specs.Faults.{whole_faults}
use Rattle.cob_data.proofs.wholes.first_whole_fault.Given as goal

abbrev pub invariant-items : goal.invariant-items
invariant-items l = earlier l.found (first (whole_faults l.is_last l.over_cd (drop l.index l.items))) ≡ first (whole_faults l.is_last l.over_cd l.items)
