use Rattle.std.proofs.Common.{◌≡◌, length}
use Rattle.cob_forms.specs.Faults.{earlier, first}
use Rattle.cob_proc.specs.Faults.{without_identifier}
use Rattle.cob_proc.proofs.faults.first_without_identifier.Given as goal

abbrev pub invariant-tokens : goal.invariant-tokens
invariant-tokens l = record {
  so_far : earlier l.found (first (without_identifier l.rest)) ≡ first (without_identifier l.tokens);
}

abbrev pub decreases-tokens : goal.decreases-tokens
decreases-tokens l = length l.rest
