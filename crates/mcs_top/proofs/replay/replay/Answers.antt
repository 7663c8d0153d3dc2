use Rattle.mcs_top.proofs.Replays.{replayed_on, fails_on, ok_weaker, err_weaker}
use Rattle.mcs_top.proofs.replay.replay.Goals as goal

pub returns-clause-ok : goal.returns-clause-ok
returns-clause-ok g c =
    ok_weaker c.replay_on.result _ _ (λ verdict done.
    replayed_on c.args.net_file.now c.args.script_file.now c.in_ok-net.net (g.S.Store.shows c.args.store.now) (g.S.Store.shows c.read_net.new.store) (g.S.Store.shows c.replay_on.new.store) verdict c.in_ok-net.ensures.ok done)
    c.replay_on.ensures.ok

pub returns-clause-err : goal.returns-clause-err
returns-clause-err g c =
    err_weaker c.replay_on.result _ _ (λ fault failed.
    fails_on c.args.net_file.now c.args.script_file.now c.in_ok-net.net (g.S.Store.shows c.args.store.now) (g.S.Store.shows c.read_net.new.store) (g.S.Store.shows c.replay_on.new.store) fault c.in_ok-net.ensures.ok failed)
    c.replay_on.ensures.err
