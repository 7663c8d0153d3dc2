use Rattle.cob_meaning.specs.Moves.{move}
use Rattle.cob_flat.proofs.Emission.{if_ok}
use Rattle.cob_flat.proofs.emit.emit_move.Goals as goal

pub returns-clause-does : goal.returns-clause-does
returns-clause-does c =
    if_ok c.put_action.result _ _
    (λ place h text. h c.args.names.now text (move c.args.names.now c.args.source.now c.args.targets.now) c.in_ok-move_action.ensures)
    c.put_action.ensures.acts
