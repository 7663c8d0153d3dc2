use Rattle.std.proofs.Common.{refl, ◌+◌}
use Rattle.com_shared.proofs.Turning.{begun}
use Rattle.com_shared.proofs.shared.Shared.begin.Goals as goal

pub returns-clause-turn : goal.returns-clause-turn
returns-clause-turn g c = begun c.args.self.now c.args.pass.now c.take-book.new.pass c.take-book.result c.take-book.result.items c.take-book.new.pass.toggles (c.args.pass.now.turns + 1) c.requires c.take-book.ensures.pass refl c.take-book.ensures.base c.tell.ensures
