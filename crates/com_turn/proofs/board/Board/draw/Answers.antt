use Rattle.std.proofs.Common.{rules}
use Rattle.com_turn.proofs.Drawing.{draws}
use Rattle.com_turn.proofs.board.Board.draw.Goals as goal

pub fetch_add-requires : goal.fetch_add-requires
fetch_add-requires g c = (search rules, search rules, draws g.V.Logged.log g.V.Logged.base g.V.Logged.owner _ _ _ c.requires.idle.0 c.requires.idle.1 c.requires.idle.2)
