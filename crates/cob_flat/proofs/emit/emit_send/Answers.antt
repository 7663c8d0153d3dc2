use Rattle.cob_meaning.specs.Verbs.{send}
use Rattle.cob_flat.proofs.Emission.{if_ok}
use Rattle.cob_flat.proofs.emit.emit_send.Goals as goal

pub returns-clause-does : goal.returns-clause-does
returns-clause-does c =
    if_ok c.put_verb.result _ _
    (λ place h text. h c.args.names.now text (send c.args.names.now c.args.cd.now c.args.from.now c.args.ending.now) c.send_verb.ensures)
    c.put_verb.ensures.asks
