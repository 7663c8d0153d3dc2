use Rattle.std.proofs.Common.{map, ap, ◌∙◌}
use Rattle.cob_proc.specs.Trees.{paragraph_tree}
use Rattle.cob_meaning.specs.Meaning.{paragraph_number}
use Rattle.cob_flat.proofs.Emission.{if_ok, emits_performs}
use Rattle.cob_flat.proofs.emit.emit_perform.Goals as goal

pub returns-clause-does : goal.returns-clause-does
returns-clause-does c =
    let text = map paragraph_tree c.args.text.now in
    if_ok c.put.result _ _
    (λ place h. emits_performs c.args.names.now text c.put.new.code.items c.args.first.now c.args.last.now c.args.repetition.now c.in_ok-turns.turns
    c.paragraph_number.result c.paragraph_number-2.result place c.args.next c.in_ok-turns.ensures c.paragraph_number.ensures
    (c.paragraph_number-2.ensures ∙ ap (paragraph_number text) c.last_of-last.ensures) h)
    c.put.ensures.put
