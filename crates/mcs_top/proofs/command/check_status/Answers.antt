use Rattle.std.proofs.Common.{◌≡◌, ◌∙◌, ap}
use Rattle.com_net.specs.declared.net.Net.{Net}
use Rattle.mcs_top.proofs.CheckOutcomes.{answer_pending, net_answered, units_answered}
use Rattle.mcs_top.proofs.command.check_status.Goals as goal

pub returns-in-Err-clause-outcome : goal.returns-in-Err-clause-outcome
returns-in-Err-clause-outcome g c =
    net_answered c.args.net_file.now (g.S.Store.shows c.args.store.now) (g.S.Store.shows c.read_net.new.store) (g.S.Store.shows c.answer.new.store) c.in-Err.failure c.answer.result c.in-Err.ensures.err c.answer.ensures

pub returns-clause-outcome : goal.returns-clause-outcome
returns-clause-outcome g c =
    let units : c.as_slice.result.now ≡ c.in-Ok.net.units = c.as_slice.ensures ∙ ap (λ (net : Net). net.units) c.net.view_is in
    units_answered c.args.net_file.now c.in-Ok.net (g.S.Store.shows c.args.store.now) (g.S.Store.shows c.read_net.new.store) (g.S.Store.shows c.check.new.store) (g.S.Store.shows c.answer-in-Err-check.new.store) c.in-Err-check.failure
    c.answer-in-Err-check.result c.in-Ok.ensures.ok (rw units at c.in-Err-check.ensures.err) c.answer-in-Err-check.ensures

pub returns-clause-pending : goal.returns-clause-pending
returns-clause-pending g c =
    answer_pending c.in-Err-check.failure c.answer-in-Err-check.result (g.S.Store.shows c.check.new.store) (g.S.Store.shows c.answer-in-Err-check.new.store) c.answer-in-Err-check.ensures ∙ (c.in-Err-check.ensures.pending ∙ c.in-Ok.ensures.pending)
