use Rattle.std.proofs.Common.{rules}
use Rattle.com_turn.proofs.Joining.{joins}
use Rattle.com_turn.proofs.board.Board.join.Goals as goal

pub join_seat-requires : goal.join_seat-requires
join_seat-requires g c = (search rules, search rules, search rules, search rules, joins g.V.Logged.log g.V.Logged.base g.V.Logged.owner _ _ _ _ c.requires.live.0 c.requires.live.1 c.requires.idle.0 c.requires.idle.1 c.requires.inactive.0 c.requires.inactive.1)
