use Rattle.com_shared.proofs.Starting.{has_started}
use Rattle.com_shared.proofs.shared.Shared.start.Goals as goal

pub returns-in-Ok-clause-started : goal.returns-in-Ok-clause-started
returns-in-Ok-clause-started g c =
    rw c.started_in.ensures (has_started c.args.self.now c.is_active-active.result c.args.pass.now c.reach.new.pass c.settle.new.pass c.in-Ok-Allowed.book c.in-Ok.given c.requires.may.unit c.is_active-active.ensures c.reach.ensures.later
    (rw c.in-Ok-Allowed.field-0-is at c.in-Ok-Allowed.ensures.reached) c.in-Ok.ensures.settled)
