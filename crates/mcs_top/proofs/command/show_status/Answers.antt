use Rattle.mcs_top.proofs.Outcomes.{show_answered}
use Rattle.mcs_top.proofs.command.show_status.Goals as goal

pub returns-in-Err-clause-outcome : goal.returns-in-Err-clause-outcome
returns-in-Err-clause-outcome g c =
    show_answered c.args.framing c.args.file.now (g.S.Store.shows c.args.store.now) (g.S.Store.shows c.show.new.store) (g.S.Store.shows c.answer.new.store) c.in-Err.fault c.answer.result
    c.in-Err.ensures.err c.answer.ensures
