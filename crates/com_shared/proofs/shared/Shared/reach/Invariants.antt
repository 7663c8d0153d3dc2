use Rattle.std.proofs.Common.{◌≡◌, true}
use Rattle.com_shared.specs.Passes.{IsPass, IsLater, own}
use Rattle.com_shared.proofs.shared.Shared.reach.Given as goal

abbrev pub invariant-loop : goal.invariant-loop
invariant-loop g l =
    (goal.iterator-loop g).can_next l.iterator' × (goal.iterator-loop g).is_finite l.iterator'
    × IsPass l.fn.self l.pass × IsLater l.fn.pass l.pass × (own l.pass ≡ own l.fn.pass) × (l.pass.active ≡ true → l.active ≡ true)
