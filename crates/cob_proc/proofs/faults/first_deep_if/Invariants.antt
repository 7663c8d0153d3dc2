use Rattle.std.proofs.Common.{◌≡◌, [], length}
use Rattle.cob_forms.specs.Faults.{earlier, first}
use Rattle.cob_proc.specs.declared.limits.TheConstants.{MAX_IFS}
use Rattle.cob_proc.specs.Faults.{deep_ifs}
use Rattle.cob_proc.proofs.faults.first_deep_if.Given as goal

abbrev pub invariant-tokens : goal.invariant-tokens
invariant-tokens l = record {
  so_far : earlier l.found (first (deep_ifs MAX_IFS l.ifs l.rest)) ≡ first (deep_ifs MAX_IFS [] l.tokens);
}

abbrev pub decreases-tokens : goal.decreases-tokens
decreases-tokens l = length l.rest
