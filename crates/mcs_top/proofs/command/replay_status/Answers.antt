use Rattle.mcs_top.proofs.Outcomes.{replay_answered}
use Rattle.mcs_top.proofs.command.replay_status.Goals as goal

pub returns-in-Err-clause-outcome : goal.returns-in-Err-clause-outcome
returns-in-Err-clause-outcome g c =
    replay_answered c.args.net_file.now c.args.script_file.now (g.S.Store.shows c.args.store.now) (g.S.Store.shows c.replay.new.store) (g.S.Store.shows c.answer.new.store) c.in-Err.fault c.answer.result
    c.in-Err.ensures.err c.answer.ensures
