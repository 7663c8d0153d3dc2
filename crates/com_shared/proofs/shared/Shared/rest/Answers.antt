use Rattle.std.proofs.Common.{◌<◌, arith}
use Rattle.com_shared.proofs.Making.{rests_none, rests_some}
use Rattle.com_shared.proofs.shared.Shared.rest.Goals as goal

pub returns-then-active-eq0-clause-rests : goal.returns-then-active-eq0-clause-rests
returns-then-active-eq0-clause-rests c =
    rests_none c.args.pass.now c.retire.new.pass c.active.new.pass c.finish.new.pass c.active.result c.retire.ensures c.active.ensures.found c.active.ensures.count c.finish.ensures.given_back c.if-active-eq0.true

pub returns-clause-rests : goal.returns-clause-rests
returns-clause-rests c =
    let some : 0 < c.active.result = (let other = c.if-active-eq0.false in omega (arith, other)) in
    rests_some c.args.pass.now c.retire.new.pass c.active.new.pass c.finish-2.new.pass c.active.result c.load-rung.result c.retire.ensures c.active.ensures.found c.active.ensures.count c.finish-2.ensures.given_back some
