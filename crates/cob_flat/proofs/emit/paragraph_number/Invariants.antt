use Rattle.std.proofs.Common.{◌≡◌, ◌+◌, ◌-◌, ◌≤◌, drop, length, map}
use Rattle.cob_proc.specs.Trees.{paragraph_tree}
use Rattle.cob_meaning.specs.Meaning.{paragraph_number}
use Rattle.cob_flat.proofs.emit.paragraph_number.Given as goal

abbrev pub invariant-paragraphs : goal.invariant-paragraphs
invariant-paragraphs l = record {
  within : l.number ≤ length l.text;
  left : l.number + paragraph_number (map paragraph_tree (drop l.number l.text)) l.name ≡ paragraph_number (map paragraph_tree l.text) l.name;
}

abbrev pub decreases-paragraphs : goal.decreases-paragraphs
decreases-paragraphs l = length l.text - l.number
