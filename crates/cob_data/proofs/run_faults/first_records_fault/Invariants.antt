use Rattle.std.proofs.Common.{◌≡◌, ◌≤◌, ◌-◌, drop, length}
use Rattle.cob_forms.specs.Faults.{earlier, first}
use Rattle.cob_data.specs.Faults.{records_faults}
use Rattle.cob_data.specs.Levels.{records_of}
use Rattle.cob_data.proofs.run_faults.first_records_fault.Given as goal

abbrev pub invariant-records : goal.invariant-records
invariant-records l = record {
  left : earlier l.found (first (records_faults l.is_last l.area (records_of (drop l.place l.items)))) ≡ first (records_faults l.is_last l.area (records_of l.items));
  within : l.place ≤ length l.items;
}

abbrev pub decreases-records : goal.decreases-records
decreases-records l = length l.items - l.place
