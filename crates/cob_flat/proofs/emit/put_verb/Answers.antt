use Rattle.cob_flat.proofs.Emission.{if_ok}
use Rattle.cob_flat.proofs.emit.put_verb.Goals as goal

pub returns-clause-asks : goal.returns-clause-asks
returns-clause-asks c =
    if_ok c.put.result _ _ (λ place h layout text request same all g. (c.args.verb, h all g, same))
    c.put.ensures.put
