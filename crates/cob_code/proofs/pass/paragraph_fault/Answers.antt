use Rattle.std.proofs.Common.{map, sym, ap, ◌∙◌}
use Rattle.std.specs.Prelude.{flat_map}
use Rattle.cob_forms.specs.Faults.{first}
use Rattle.cob_proc.specs.Trees.{paragraph_tree}
use Rattle.cob_code.specs.inner.Statements.{own_faults}
use Rattle.cob_code.specs.inner.Written.{shown}
use Rattle.cob_code.proofs.InTrees.{paragraph_faults}
use Rattle.cob_code.proofs.pass.paragraph_fault.Goals as goal

pub returns : goal.returns
returns c =
    let text = map paragraph_tree c.args.text.now.paragraphs.now in
    c.statements_fault.ensures
    ∙ (ap (λ trees. first (flat_map (own_faults c.args.names.now text) trees)) (ap shown c.deref.ensures.value ∙ c.in_ok-statements.ensures)
    ∙ ap first (sym (paragraph_faults c.args.names.now text (paragraph_tree c.args.paragraph.now))))
