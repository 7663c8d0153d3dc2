use Rattle.std.proofs.Common.{◌≡◌, ◌+◌, length}
use Rattle.cob_proc.proofs.LimitPlaces.{Reached}
use Rattle.cob_proc.proofs.limits.limit_passed_at.Given as goal

abbrev pub invariant-tokens : goal.invariant-tokens
invariant-tokens l = record {
  within : l.at + length l.rest ≡ length l.tokens;
  reached : Reached l.tokens l.rest l.at l.left l.ifs l.after_period;
}

abbrev pub decreases-tokens : goal.decreases-tokens
decreases-tokens l = length l.rest
