use Rattle.std.proofs.Common.{◌≡◌, length, reverse}
use Rattle.cob_proc.specs.Faults.{behind_else}
use Rattle.cob_proc.proofs.ifs.OpenIfs.pass_else.Given as goal

abbrev pub invariant-ended : goal.invariant-ended
invariant-ended l = record {
  same : behind_else (reverse l.self-inside.ifs.items) ≡ behind_else (reverse l.initial.self-inside.ifs.items);
}

abbrev pub decreases-ended : goal.decreases-ended
decreases-ended l = length l.self-inside.ifs.items
