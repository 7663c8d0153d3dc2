use Rattle.std.proofs.Common.{◌≡◌, ◌++◌, ◌-◌, ◌≤◌, drop, length, map}
use Rattle.cob_proc.specs.Trees.{paragraph_tree}
use Rattle.cob_meaning.specs.Ranges.{goes_from, performs_from}
use Rattle.cob_code.specs.inner.Numbered.{aimed, numbered}
use Rattle.cob_code.proofs.ranges.ranges_and_jumps.Given as goal

abbrev pub invariant-paragraphs : goal.invariant-paragraphs
invariant-paragraphs l = record {
  within : l.from ≤ length l.paragraphs;
  ranges : l.ranges.items ++ map (numbered (map paragraph_tree l.text.paragraphs.now)) (performs_from l.from (map paragraph_tree (drop l.from l.paragraphs)))
      ≡ map (numbered (map paragraph_tree l.text.paragraphs.now)) (performs_from 0 (map paragraph_tree l.paragraphs));
  jumps : l.jumps.items ++ map (aimed (map paragraph_tree l.text.paragraphs.now)) (goes_from l.from (map paragraph_tree (drop l.from l.paragraphs)))
      ≡ map (aimed (map paragraph_tree l.text.paragraphs.now)) (goes_from 0 (map paragraph_tree l.paragraphs));
}

abbrev pub decreases-paragraphs : goal.decreases-paragraphs
decreases-paragraphs l = length l.paragraphs - l.from
