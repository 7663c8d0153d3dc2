use Rattle.std.proofs.Common.{◌≡◌, ◌≤◌, ◌-◌, drop, length}
use Rattle.cob_data.specs.Entries.{split_runs, storage_items}
use Rattle.cob_data.proofs.division.working_storage.Given as goal

abbrev pub invariant-runs : goal.invariant-runs
invariant-runs l = record {
  left : storage_items (split_runs (drop l.place l.entries)).1 ≡ storage_items (split_runs l.entries).1;
  within : l.place ≤ length l.entries;
}

abbrev pub decreases-runs : goal.decreases-runs
decreases-runs l = length l.entries - l.place
