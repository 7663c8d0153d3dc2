use Rattle.std.proofs.Common.{◌≤◌, drop, length, map}
use Rattle.cob_proc.specs.Trees.{block_of, paragraph_tree, trees_of}
use Rattle.cob_flat.specs.declared.code.Instruction.TheVariants as instruction
use Rattle.cob_flat.specs.inner.Emitted.{Extends, IsPut, SentencesEmitted}
use Rattle.cob_flat.proofs.paragraphs.emit_paragraph.Given as goal

abbrev pub invariant-sentences : goal.invariant-sentences
invariant-sentences l = record {
  within : l.left ≤ length l.sentences;
  extends : Extends l.initial.code.items l.code.items;
  put : IsPut l.code.items l.end instruction.End;
  does : SentencesEmitted l.names (map paragraph_tree l.text) l.code.items (drop l.left (map (λ sentence. block_of (trees_of sentence.items)) l.sentences)) l.place l.end;
}

abbrev pub decreases-sentences : goal.decreases-sentences
decreases-sentences l = l.left
