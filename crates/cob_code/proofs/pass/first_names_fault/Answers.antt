use Rattle.std.proofs.Common.{map}
use Rattle.cob_proc.specs.Trees.{paragraph_tree}
use Rattle.cob_meaning.specs.Names.{sentences_faults}
use Rattle.cob_code.proofs.Joined.{next_in}
use Rattle.cob_code.proofs.pass.first_names_fault.Goals as goal

pub paragraphs-preserved : goal.paragraphs-preserved
paragraphs-preserved c =
    next_in paragraph_tree (sentences_faults c.args.names.now (map paragraph_tree c.args.text.now.paragraphs.now)) c.args.text.now.paragraphs.now c.paragraphs.paragraph-index c.paragraph-item.result
    c.paragraphs.found c.in_ok-paragraph_fault.field-0 c.first_of-found.result _ c.paragraphs-test.true c.paragraph-item.is c.in_ok-paragraph_fault.ensures c.first_of-found.ensures c.paragraphs.invariant
