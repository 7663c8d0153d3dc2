use Rattle.cob_meaning.specs.Moves.{add}
use Rattle.cob_flat.proofs.Emission.{if_ok}
use Rattle.cob_flat.proofs.emit.emit_add.Goals as goal

pub returns-clause-does : goal.returns-clause-does
returns-clause-does c =
    if_ok c.put_action.result _ _
    (λ place h text. h c.args.names.now text (add c.args.names.now c.args.addend.now c.args.target.now) c.add_action.ensures)
    c.put_action.ensures.acts
