use Rattle.std.proofs.Common.{◌≡◌, ◌≤◌, ◌+◌, ◌-◌, ◌++◌, drop, length}
use Rattle.cob_data.specs.Entries.{cd_runs, split_runs}
use Rattle.cob_data.specs.Divisions.{cds_from}
use Rattle.cob_data.proofs.division.communication.Given as goal

abbrev pub invariant-runs : goal.invariant-runs
invariant-runs l = record {
  left : l.list.items ++ cds_from l.area (cd_runs (split_runs (drop l.place l.entries)).1) ≡ cds_from l.fn.first (cd_runs (split_runs l.entries).1);
  most : l.area ≤ l.fn.first + l.place;
  within : l.place ≤ length l.entries;
}

abbrev pub decreases-runs : goal.decreases-runs
decreases-runs l = length l.entries - l.place
