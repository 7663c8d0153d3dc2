use Rattle.mcs_top.proofs.Replays.{done_reached, done_on, undone_on, ok_weaker, err_weaker}
use Rattle.mcs_top.proofs.replay.replay_on.Goals as goal

pub write_run-requires-clause-reached : goal.write_run-requires-clause-reached
write_run-requires-clause-reached g c κs within = done_reached c.args.script_file.now c.args.net.now (g.S.Store.shows c.args.store.now) (g.S.Store.shows c.perform_file.new.store) c.in_ok-run.run' c.in_ok-run.ensures.ok

pub returns-clause-ok : goal.returns-clause-ok
returns-clause-ok g c =
    ok_weaker c.write_run.result _ _ (λ verdict written.
    done_on c.args.script_file.now c.args.net.now (g.S.Store.shows c.args.store.now) (g.S.Store.shows c.perform_file.new.store) (g.S.Store.shows c.write_run.new.store) c.in_ok-run.run' verdict c.in_ok-run.ensures.ok written)
    c.write_run.ensures.ok

pub returns-clause-err : goal.returns-clause-err
returns-clause-err g c =
    err_weaker c.write_run.result _ _ (λ fault cut.
    undone_on c.args.script_file.now c.args.net.now (g.S.Store.shows c.args.store.now) (g.S.Store.shows c.perform_file.new.store) (g.S.Store.shows c.write_run.new.store) c.in_ok-run.run' fault c.in_ok-run.ensures.ok cut)
    c.write_run.ensures.err
