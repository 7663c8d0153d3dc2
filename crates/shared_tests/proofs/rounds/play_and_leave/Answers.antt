use Rattle.std.proofs.Common.{◌≡◌, length, rules}
use Rattle.shared_tests.proofs.Standing.{out_later}
use Rattle.shared_tests.proofs.rounds.play_and_leave.Goals as goal

pub returns : goal.returns
returns g c =
    let same : length c.play_rounds-waited.new.members ≡ length c.args.members.now = search rules in
    out_later c.args.shared.now c.args.members.now c.play_rounds-waited.new.members c.leave_all.new.members same c.play_rounds-waited.ensures c.leave_all.ensures
