use Rattle.com_shared.proofs.Making.{free_here}
use Rattle.com_shared.proofs.shared.Shared.act.Goals as goal

pub settle-requires-clause-allowed : goal.settle-requires-clause-allowed
settle-requires-clause-allowed g c = free_here c.args.self.now c.args.pass.now c.begin-book.new.pass c.begin-book.result c.args.call c.begin-book.ensures.turn c.begin-book.ensures.later.number c.begin-book.ensures.own c.requires.free
