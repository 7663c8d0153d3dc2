use Rattle.std.proofs.Common.{◌<◌, length, map}
use Rattle.cob_forms.proofs.Lists.{Left}
use Rattle.cob_proc.specs.Forms as forms
use Rattle.cob_proc.specs.Spelled.{begins_form}
use Rattle.cob_proc.specs.Trees.{paragraph_tree}
use Rattle.cob_proc.specs.DivisionReaders.{read_paragraph, read_paragraphs}
use Rattle.cob_proc.proofs.paragraphs.take_paragraphs.Given as goal

abbrev pub invariant-turns : goal.invariant-turns
invariant-turns l = record {
  read : Left (begins_form forms.paragraph) (read_paragraph l.depth) (map paragraph_tree l.list.items) l.rest (read_paragraphs l.depth l.tokens);
  fewer : length l.rest < length l.tokens;
}

abbrev pub decreases-turns : goal.decreases-turns
decreases-turns l = length l.rest
