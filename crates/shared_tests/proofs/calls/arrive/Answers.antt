use Rattle.shared_tests.proofs.Feeding.{has_arrived}
use Rattle.shared_tests.proofs.calls.arrive.Goals as goal

pub returns-in-Ok-Done-clause-feeds : goal.returns-in-Ok-Done-clause-feeds
returns-in-Ok-Done-clause-feeds g c done =
    has_arrived c.args.shared.now c.args.arrivals c.in-Ok-Done.field-0-0 c.args.stamp c.args.message c.args.pass.now c.arrive.new.pass c.requires.feeds c.arrive.ensures.pass c.arrive.ensures.later (rw c.in-Ok-Done.field-0-is at c.in-Ok-Done.ensures.arrived)
