use Rattle.std.proofs.Common.{◌∙◌}
use Rattle.com_net.proofs.NameSets.{any_now, flipped}
use Rattle.com_net.proofs.name_faults.clashes.Goals as goal

pub returns-in_ok-insert-in-Terminal-clause-clash : goal.returns-in_ok-insert-in-Terminal-clause-clash
returns-in_ok-insert-in-Terminal-clause-clash c =
    rw (c.in-Terminal.is, c.in_ok-insert-in-Terminal.ensures.added) (flipped _ ∙ any_now c.args.name.now c.args.terminals.now.keys)

pub returns-then-level-eq1-clause-clash : goal.returns-then-level-eq1-clause-clash
returns-then-level-eq1-clause-clash c =
    rw (c.in-Queue.is, c.if-level-eq1.true) (c.contains.ensures ∙ any_now c.args.name.now c.args.terminals.now.keys)

pub returns-in_ok-insert-in-Unit-clause-clash : goal.returns-in_ok-insert-in-Unit-clause-clash
returns-in_ok-insert-in-Unit-clause-clash c =
    rw (c.in-Unit.is, c.in_ok-insert-in-Unit.ensures.added) (flipped _ ∙ any_now c.args.name.now c.args.units.now.keys)
