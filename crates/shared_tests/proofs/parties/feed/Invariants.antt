use Rattle.shared_tests.specs.Playing.{GoesOn, Feeds}
use Rattle.shared_tests.proofs.parties.feed.Given as goal

abbrev pub invariant-loop-k : goal.invariant-loop-k
invariant-loop-k g l = GoesOn l.shared l.fn.pass l.pass × Feeds l.shared l.k l.pass
