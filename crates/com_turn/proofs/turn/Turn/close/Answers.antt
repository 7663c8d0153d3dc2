use Rattle.std.proofs.Common.{sym, subst}
use Rattle.com_turn.specs.Passes.{AreReady}
use Rattle.com_turn.proofs.Collecting.{every_number, all_kept, agree}
use Rattle.com_turn.proofs.turn.Turn.close.Goals as goal

pub collect-seat-requires-clause-all : goal.collect-seat-requires-clause-all
collect-seat-requires-clause-all g c = subst (λ turn. AreReady turn c.args.passes.items) (sym c.self.view_is) c.requires.all

pub close-requires-clause-all : goal.close-requires-clause-all
close-requires-clause-all g c = every_number c.args.self c.args.passes.items c.collect-seat.result.me.0 c.requires.all c.collect-seat.ensures.idle.2 c.collect-seat.ensures.all

pub returns-clause-kept : goal.returns-clause-kept
returns-clause-kept g c =
    all_kept g.V.Logged.log g.V.Logged.base g.V.Logged.owner c.collect-seat.result.me.0 c.close.result c.close.ensures c.args.passes.items c.collect-seat.ensures.all

pub returns-clause-toggles : goal.returns-clause-toggles
returns-clause-toggles g c =
    agree g.V.Logged.log g.V.Logged.base g.V.Logged.owner c.collect-seat.result.me.0 c.close.result c.close.ensures c.args.passes.items c.collect-seat.ensures.all
