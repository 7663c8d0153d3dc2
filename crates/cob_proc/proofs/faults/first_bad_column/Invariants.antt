use Rattle.std.proofs.Common.{◌≡◌, None, length}
use Rattle.cob_forms.specs.Faults.{earlier, first}
use Rattle.cob_proc.specs.Faults.{bad_columns}
use Rattle.cob_proc.proofs.Families.{columns_behind}
use Rattle.cob_proc.proofs.faults.first_bad_column.Given as goal

abbrev pub invariant-tokens : goal.invariant-tokens
invariant-tokens l = record {
  so_far : earlier l.found (first (columns_behind l.rest)) ≡ first (bad_columns None l.tokens);
}

abbrev pub decreases-tokens : goal.decreases-tokens
decreases-tokens l = length l.rest
