use Rattle.std.proofs.Common.{◌≡◌}
use Rattle.com_shared.specs.Passes.{own}
use Rattle.shared_tests.specs.Playing.{GoesOn}
use Rattle.shared_tests.proofs.plan.wait_for_entries.Given as goal

abbrev pub invariant-loop : goal.invariant-loop
invariant-loop g l =
    (goal.iterator-loop g).can_next l.iterator' × (goal.iterator-loop g).is_finite l.iterator'
    × GoesOn l.shared l.fn.pass l.pass × (own l.pass ≡ own l.fn.pass)
