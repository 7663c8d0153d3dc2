use Rattle.std.proofs.Common.{◌≡◌, ◌++◌, None, length, map}
use Rattle.cob_proc.specs.Faults.{paragraph_names}
use Rattle.cob_proc.proofs.Families.{names_behind}
use Rattle.cob_proc.proofs.faults.paragraph_names.Given as goal

abbrev pub invariant-tokens : goal.invariant-tokens
invariant-tokens l = record {
  same : map (λ t. t.now) l.names.items ++ names_behind l.rest ≡ paragraph_names None l.tokens;
}

abbrev pub decreases-tokens : goal.decreases-tokens
decreases-tokens l = length l.rest
