use Rattle.std.proofs.Common.{◌≤◌, length, map}
use Rattle.cob_forms.proofs.Lists.{Left}
use Rattle.cob_proc.specs.Forms as forms
use Rattle.cob_proc.specs.Spelled.{begins_form}
use Rattle.cob_proc.specs.Trees.{block_of, trees_of}
use Rattle.cob_proc.specs.DivisionReaders.{read_sentence, read_sentences}
use Rattle.cob_proc.proofs.paragraphs.take_sentences.Given as goal

abbrev pub invariant-turns : goal.invariant-turns
invariant-turns l = record {
  read : Left (begins_form forms.sentence) (read_sentence l.depth) (map (λ s. block_of (trees_of s.items)) l.list.items) l.rest (read_sentences l.depth l.tokens);
  fewer : length l.rest ≤ length l.tokens;
}

abbrev pub decreases-turns : goal.decreases-turns
decreases-turns l = length l.rest
