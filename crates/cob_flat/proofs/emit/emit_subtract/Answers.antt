use Rattle.cob_meaning.specs.Moves.{subtract}
use Rattle.cob_flat.proofs.Emission.{if_ok}
use Rattle.cob_flat.proofs.emit.emit_subtract.Goals as goal

pub returns-clause-does : goal.returns-clause-does
returns-clause-does c =
    if_ok c.put_action.result _ _
    (λ place h text. h c.args.names.now text (subtract c.args.names.now c.args.addend.now c.args.target.now) c.subtract_action.ensures)
    c.put_action.ensures.acts
