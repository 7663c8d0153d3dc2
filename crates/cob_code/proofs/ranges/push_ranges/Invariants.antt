use Rattle.std.proofs.Common.{◌≡◌, ◌++◌, ◌-◌, drop, length, map}
use Rattle.std.specs.Prelude.{flat_map}
use Rattle.cob_proc.specs.Trees.{paragraph_tree}
use Rattle.cob_code.specs.inner.Numbered.{numbered}
use Rattle.cob_code.specs.inner.Statements.{own_performs}
use Rattle.cob_code.specs.inner.Written.{shown}
use Rattle.cob_code.proofs.ranges.push_ranges.Given as goal

abbrev pub invariant-statements : goal.invariant-statements
invariant-statements l =
    l.ranges.items ++ map (numbered (map paragraph_tree l.text.paragraphs.now)) (flat_map (own_performs l.from) (shown (drop l.at l.statements)))
    ≡ l.initial.ranges.items ++ map (numbered (map paragraph_tree l.text.paragraphs.now)) (flat_map (own_performs l.from) (shown l.statements))

abbrev pub decreases-statements : goal.decreases-statements
decreases-statements l = length l.statements - l.at
