use Rattle.std.proofs.Common.{true}
use Rattle.com_shared.proofs.Turning.{still_turn}
use Rattle.com_shared.proofs.shared.Shared.enter.Goals as goal

pub finish-requires : goal.finish-requires
finish-requires g c = still_turn c.args.self.now c.begin-book.new.pass c.reenter.new.pass c.begin-book.result c.reenter.ensures.0 true c.reenter.ensures.1 c.begin-book.ensures.turn c.reenter.ensures.2
