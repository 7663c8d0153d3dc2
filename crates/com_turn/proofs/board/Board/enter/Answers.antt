use Rattle.std.proofs.Common.{rules}
use Rattle.com_turn.proofs.Settling.{ticket_at_turn}
use Rattle.com_turn.proofs.Toggling.{enters}
use Rattle.com_turn.proofs.board.Board.enter.Goals as goal

pub fetch_add-requires : goal.fetch_add-requires
fetch_add-requires g c =
    let turn = ticket_at_turn c.args.seat.now.me.0.stage c.requires.at_turn.0 in
    (search rules, search rules, enters g.V.Logged.log g.V.Logged.base g.V.Logged.owner _ _ _ turn.0 turn.1 c.requires.at_turn.1 c.requires.inactive)
