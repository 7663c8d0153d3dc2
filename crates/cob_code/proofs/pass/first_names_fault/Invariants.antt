use Rattle.std.proofs.Common.{◌≡◌, drop, map}
use Rattle.std.specs.Prelude.{flat_map}
use Rattle.cob_forms.specs.Faults.{earlier, first}
use Rattle.cob_proc.specs.Trees.{paragraph_tree}
use Rattle.cob_meaning.specs.Names.{sentences_faults}
use Rattle.cob_code.proofs.pass.first_names_fault.Given as goal

abbrev pub invariant-paragraphs : goal.invariant-paragraphs
invariant-paragraphs l =
    earlier l.found (first (flat_map (sentences_faults l.names (map paragraph_tree l.text.paragraphs.now)) (map paragraph_tree (drop l.paragraph-index l.paragraph-items))))
    ≡ first (flat_map (sentences_faults l.names (map paragraph_tree l.text.paragraphs.now)) (map paragraph_tree l.paragraph-items))
