use Rattle.cob_meaning.specs.Verbs.{accept}
use Rattle.cob_flat.proofs.Emission.{if_ok}
use Rattle.cob_flat.proofs.emit.emit_accept.Goals as goal

pub returns-clause-does : goal.returns-clause-does
returns-clause-does c =
    if_ok c.put_verb.result _ _
    (λ place h text. h c.args.names.now text (accept c.args.names.now c.args.cd.now) c.accept_verb.ensures)
    c.put_verb.ensures.asks
