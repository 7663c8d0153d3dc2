use Rattle.std.proofs.Common.{◌≡◌, ◌≤◌, ◌-◌, drop, length}
use Rattle.cob_forms.specs.Faults.{earlier, first}
use Rattle.cob_data.specs.Entries.{split_runs}
use Rattle.cob_data.specs.Faults.{runs_faults}
use Rattle.cob_data.proofs.run_faults.first_run_fault.Given as goal

abbrev pub invariant-runs : goal.invariant-runs
invariant-runs l = record {
  left : earlier l.found (first (runs_faults l.is_followed (split_runs (drop l.place l.entries)).1)) ≡ first (runs_faults l.is_followed (split_runs l.entries).1);
  within : l.place ≤ length l.entries;
}

abbrev pub decreases-runs : goal.decreases-runs
decreases-runs l = length l.entries - l.place
