use Rattle.std.proofs.Common.{◌+◌, ◌*◌}
use Rattle.shared_tests.specs.Playing.{GoesOn, Runs}
use Rattle.shared_tests.proofs.parties.answer_all.Given as goal

abbrev pub invariant-loop-k : goal.invariant-loop-k
invariant-loop-k g l = GoesOn l.shared l.fn.pass l.pass × Runs l.shared (l.verbs + 3 * l.k) l.pass
