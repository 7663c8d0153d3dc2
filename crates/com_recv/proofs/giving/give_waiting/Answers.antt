use Rattle.std.proofs.Common.{ap}
use Rattle.com_recv.specs.Incoming.{without_held}
use Rattle.com_recv.proofs.Taking.{gives}
use Rattle.com_recv.proofs.giving.give_waiting.Goals as goal

pub returns-clause-given : goal.returns-clause-given
returns-clause-given c = λ message is.
    let request = c.args.request in
    let leaf = c.args.leaf.number in
    gives c.args.tree.now request leaf message c.in_ok-message.message c.in_ok-message.portion c.args.held.now.items c.try_reserve.new.self.items c.args.area.now c.given_area.result c.hold.new.held.items
    (c.in_ok-message.ensures.taken message is) c.given_area.ensures c.hold.ensures (ap (without_held request.unit leaf) c.try_reserve.ensures.items)
