use Rattle.std.proofs.Common.{◌∙◌, subst}
use Rattle.com_events.specs.declared.reply.Reply.{Reply}
use Rattle.com_shared.specs.inner.Turns.{HasSettled}
use Rattle.com_shared.proofs.Making.{later_still, settled_later, settled_active}
use Rattle.com_shared.proofs.Arriving.{arrived_done}
use Rattle.com_shared.proofs.shared.Shared.arrive.Goals as goal

pub returns-in-Ok-clause-later : goal.returns-in-Ok-clause-later
returns-in-Ok-clause-later g c =
    later_still c.args.pass.now c.come_in.new.pass c.settle.new.pass c.come_in.ensures.later
    (settled_later c.come_in.new.pass c.settle.new.pass c.in-Ok-Allowed.book c.arrive_call-call.result c.is_active-active.result c.in-Ok.given c.in-Ok.ensures.settled)

pub returns-in-Ok-clause-arrived : goal.returns-in-Ok-clause-arrived
returns-in-Ok-clause-arrived g c = (
  arrived_done c.args.self.now c.is_active-active.result c.arrive_call-call.result c.args.stamp c.args.message c.args.pass.now c.come_in.new.pass c.settle.new.pass c.in-Ok-Allowed.book c.number_in.result c.arrive_call-call.ensures.call c.come_in.ensures.later
      (rw c.in-Ok-Allowed.field-0-is at c.in-Ok-Allowed.ensures.come)
      (subst (λ (r : Reply). HasSettled c.in-Ok-Allowed.book c.come_in.new.pass c.arrive_call-call.result c.is_active-active.result r c.settle.new.pass) c.number_in.ensures c.in-Ok.ensures.settled),
  settled_active c.come_in.new.pass c.settle.new.pass c.in-Ok-Allowed.book c.arrive_call-call.result c.is_active-active.result c.in-Ok.given c.in-Ok.ensures.settled ∙ c.is_active-active.ensures,
)
