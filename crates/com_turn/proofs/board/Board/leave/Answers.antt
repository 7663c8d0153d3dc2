use Rattle.std.proofs.Common.{rules}
use Rattle.com_turn.proofs.Settling.{ticket_at_turn}
use Rattle.com_turn.proofs.Toggling.{leaves}
use Rattle.com_turn.proofs.board.Board.leave.Goals as goal

pub fetch_sub-requires : goal.fetch_sub-requires
fetch_sub-requires g c =
    let turn = ticket_at_turn c.args.seat.now.me.0.stage c.requires.at_turn.0 in
    (search rules, search rules, leaves g.V.Logged.log g.V.Logged.base g.V.Logged.owner _ _ _ turn.0 turn.1 c.requires.at_turn.1 c.requires.active)
