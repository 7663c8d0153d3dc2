use Rattle.std.proofs.Common.{◌≡◌}
use Rattle.com_shared.specs.Passes.{own}
use Rattle.shared_tests.specs.Playing.{GoesOn}
use Rattle.shared_tests.proofs.plan.let_turns_go.Given as goal

abbrev pub invariant-loop : goal.invariant-loop
invariant-loop g l = GoesOn l.shared l.fn.pass l.pass × (own l.pass ≡ own l.fn.pass)
