use Rattle.std.proofs.Common.{rules, Some, ap, sym, ◌∙◌, ◌∷◌}
use Rattle.atomic_table.specs.Table.{rest}
use Rattle.com_turn.proofs.board.Board.lift.Goals as goal

pub exchange-requires : goal.exchange-requires
exchange-requires g c = (search rules, (Some c.requires.out.0, c.requires.out.1 ∙ ap (λ z. (0, Some c.requires.out.0) ∷ rest z) (sym c.requires.out.1)))
