use Rattle.std.proofs.Common.{◌≡◌, length, rules}
use Rattle.shared_tests.proofs.Beginning.{all_stay_fresh, leaves_later}
use Rattle.shared_tests.proofs.threads.enter_and_play.Goals as goal

pub play_all-requires-clause-fresh : goal.play_all-requires-clause-fresh
play_all-requires-clause-fresh g c κs within =
    let same : length c.enter_all.new.passes ≡ length c.args.passes.now = search rules in
    all_stay_fresh c.args.shared.now c.args.passes.now c.enter_all.new.passes same c.enter_all.ensures

pub returns : goal.returns
returns g c =
    let same : length c.enter_all.new.passes ≡ length c.args.passes.now = search rules in
    leaves_later c.args.shared.now c.args.passes.now c.enter_all.new.passes c.play_all.new.passes same c.enter_all.ensures c.play_all.ensures
