use Rattle.cob_meaning.specs.Verbs.{switch_input}
use Rattle.cob_flat.proofs.Emission.{if_ok}
use Rattle.cob_flat.proofs.emit.emit_switch_input.Goals as goal

pub returns-clause-does : goal.returns-clause-does
returns-clause-does c =
    if_ok c.put_verb.result _ _
    (λ place h text. h c.args.names.now text (switch_input c.args.names.now c.args.on c.args.terminal c.args.cd.now c.args.key.now) c.in_ok-verb.ensures)
    c.put_verb.ensures.asks
