use Rattle.std.proofs.Common.{Some, refl}
use Rattle.cob_flat.proofs.Emission.{if_ok}
use Rattle.cob_flat.proofs.statements.emit_exit.Goals as goal

pub returns-clause-does : goal.returns-clause-does
returns-clause-does c =
    if_ok c.put_action.result _ _ (λ place h layout text. h layout text Some (λ storage. refl))
    c.put_action.ensures.acts
