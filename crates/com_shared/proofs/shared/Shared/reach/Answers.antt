use Rattle.com_shared.proofs.Making.{later_still}
use Rattle.com_shared.proofs.shared.Shared.reach.Goals as goal

pub returns-in-Ok-Allowed-clause-later : goal.returns-in-Ok-Allowed-clause-later
returns-in-Ok-Allowed-clause-later g c = later_still c.args.pass.now c.loop.pass c.approach.new.pass c.loop.invariant.3 c.approach.ensures.later
