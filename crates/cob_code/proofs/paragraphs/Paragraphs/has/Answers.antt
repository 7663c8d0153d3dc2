use Rattle.std.proofs.Common.{map, ap, ◌∙◌}
use Rattle.std.specs.Prelude.{is_some}
use Rattle.cob_proc.specs.Trees.{paragraph_tree}
use Rattle.cob_code.proofs.Placing.{is_among}
use Rattle.cob_code.proofs.paragraphs.Paragraphs.has.Goals as goal

pub returns : goal.returns
returns c = is_among (map paragraph_tree c.args.self.now.paragraphs.now) c.args.name.now.text c.is_some.result (c.is_some.ensures ∙ ap is_some c.find.ensures)
