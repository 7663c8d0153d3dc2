use Rattle.com_shared.proofs.Waiting.{settled_done}
use Rattle.com_shared.proofs.shared.Shared.settle_done.Goals as goal

pub returns-in-Ok-clause-settled : goal.returns-in-Ok-clause-settled
returns-in-Ok-clause-settled c =
    settled_done c.args.book c.args.pass.now c.settle.new.pass c.args.active c.args.call c.in-Ok.field-0 c.requires.done c.in-Ok.ensures.settled
