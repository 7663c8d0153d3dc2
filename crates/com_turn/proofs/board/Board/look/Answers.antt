use Rattle.std.proofs.Common.{rules}
use Rattle.com_turn.proofs.Looking.{looks}
use Rattle.com_turn.proofs.board.Board.look.Goals as goal

pub load-requires : goal.load-requires
load-requires g c = (search rules, search rules, looks g.V.Logged.log g.V.Logged.base g.V.Logged.owner _ _ _ c.requires.waiting.0 c.requires.waiting.1 c.requires.waiting.3)
