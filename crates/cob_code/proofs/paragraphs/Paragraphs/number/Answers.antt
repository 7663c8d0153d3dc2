use Rattle.std.proofs.Common.{map, sym, ◌∙◌}
use Rattle.std.proofs.lemmas.List.{length-map}
use Rattle.cob_proc.specs.Trees.{paragraph_tree}
use Rattle.cob_code.proofs.Placing.{number_past, number_there}
use Rattle.cob_code.proofs.paragraphs.Paragraphs.number.Goals as goal

pub returns-in-Some : goal.returns-in-Some
returns-in-Some c = number_there (map paragraph_tree c.args.self.now.paragraphs.now) c.args.name.now.text c.in-Some.number (sym c.find.ensures ∙ c.in-Some.is)

pub returns-in-None : goal.returns-in-None
returns-in-None c =
    sym (length-map c.args.self.now.paragraphs.now paragraph_tree)
    ∙ number_past (map paragraph_tree c.args.self.now.paragraphs.now) c.args.name.now.text (sym c.find.ensures ∙ c.in-None.is)
