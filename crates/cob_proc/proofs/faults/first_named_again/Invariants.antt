use Rattle.std.proofs.Common.{◌-◌, drop, length}
use Rattle.cob_proc.proofs.Families.{Looked}
use Rattle.cob_proc.proofs.faults.first_named_again.Given as goal

abbrev pub invariant-names : goal.invariant-names
invariant-names l = record {
  looked : Looked l.names (drop l.at l.names) l.at l.found;
}

abbrev pub decreases-names : goal.decreases-names
decreases-names l = length l.names - l.at
