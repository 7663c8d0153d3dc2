use Rattle.std.proofs.Common.{rules}
use Rattle.com_turn.proofs.Numbering.{splits}
use Rattle.com_turn.proofs.board.Board.give_number.Goals as goal

pub split_seat-requires : goal.split_seat-requires
split_seat-requires g c = (search rules, search rules, splits g.V.Logged.log g.V.Logged.base g.V.Logged.owner _ _ c.requires.counts.0 c.requires.counts.3 c.requires.counts.1 c.requires.counts.2)
