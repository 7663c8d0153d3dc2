use Rattle.cob_flat.proofs.Emission.{if_ok}
use Rattle.cob_flat.proofs.emit.put_action.Goals as goal

pub returns-clause-acts : goal.returns-clause-acts
returns-clause-acts c =
    if_ok c.put.result _ _ (λ place h layout text change same all g. (c.args.action, h all g, same))
    c.put.ensures.put
