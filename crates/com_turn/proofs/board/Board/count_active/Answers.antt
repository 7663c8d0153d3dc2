use Rattle.std.proofs.Common.{rules}
use Rattle.com_turn.proofs.Settling.{ticket_at_turn}
use Rattle.com_turn.proofs.Toggling.{counts_active}
use Rattle.com_turn.proofs.board.Board.count_active.Goals as goal

pub load-requires : goal.load-requires
load-requires g c =
    let turn = ticket_at_turn c.args.seat.now.me.0.stage c.requires.at_turn.0 in
    (search rules, search rules, counts_active g.V.Logged.log g.V.Logged.base g.V.Logged.owner _ _ _ turn.0 turn.1 c.requires.at_turn.1)
