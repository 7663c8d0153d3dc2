use Rattle.std.proofs.Common.{◌≡◌, length, map}
use Rattle.cob_proc.specs.Trees.{paragraph_tree}
use Rattle.cob_flat.specs.inner.Emitted.{BelowEmitted}
use Rattle.cob_flat.proofs.paragraphs.flatten_text.Given as goal

abbrev pub invariant-paragraphs : goal.invariant-paragraphs
invariant-paragraphs l = record {
  long : length l.starts.items ≡ l.paragraph-index;
  below : BelowEmitted l.names (map paragraph_tree l.text) l.code.items l.starts.items l.paragraph-index;
}
