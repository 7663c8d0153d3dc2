use Rattle.std.proofs.Common.{◌≡◌, ℕ, ◌<◌, ◌≤◌, ◌||◌, get_or, false}
use Rattle.cob_code.proofs.sets.join_flags.Given as goal

abbrev pub invariant-numbers : goal.invariant-numbers
invariant-numbers l = record {
  before : (k : ℕ) → k < l.number → get_or l.flags k false ≡ (get_or l.initial.flags k false || get_or l.others k false);
  behind : (k : ℕ) → l.number ≤ k → get_or l.flags k false ≡ get_or l.initial.flags k false;
}
