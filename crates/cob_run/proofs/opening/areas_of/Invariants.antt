use Rattle.std.proofs.Common.{◌≡◌}
use Rattle.cob_run.proofs.opening.areas_of.Given as goal

abbrev pub invariant-opening : goal.invariant-opening
invariant-opening l = l.areas.items ≡ l.yielded
