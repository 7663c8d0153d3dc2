use Rattle.com_shared.proofs.Receiving.{has_looked}
use Rattle.com_shared.proofs.shared.Shared.look.Goals as goal

pub returns-in-Ok-clause-looked : goal.returns-in-Ok-clause-looked
returns-in-Ok-clause-looked g c =
    rw (c.received_in.ensures, c.area_left.ensures) (has_looked c.args.self.now c.args.active c.args.area.now c.args.kind c.args.size c.args.no_data c.receive_call-call.result c.args.pass.now c.reach.new.pass c.settle.new.pass c.in-Ok-Allowed.book c.in-Ok.given
    c.receive_call-call.ensures.call c.requires.may.unit c.reach.ensures.later (rw c.in-Ok-Allowed.field-0-is at c.in-Ok-Allowed.ensures.reached) c.in-Ok.ensures.settled)
