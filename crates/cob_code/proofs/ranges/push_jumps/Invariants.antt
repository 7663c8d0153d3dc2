use Rattle.std.proofs.Common.{◌≡◌, ◌++◌, ◌-◌, drop, length, map}
use Rattle.std.specs.Prelude.{flat_map}
use Rattle.cob_proc.specs.Trees.{paragraph_tree}
use Rattle.cob_code.specs.inner.Numbered.{aimed}
use Rattle.cob_code.specs.inner.Statements.{own_goes}
use Rattle.cob_code.specs.inner.Written.{shown}
use Rattle.cob_code.proofs.ranges.push_jumps.Given as goal

abbrev pub invariant-statements : goal.invariant-statements
invariant-statements l =
    l.jumps.items ++ map (aimed (map paragraph_tree l.text.paragraphs.now)) (flat_map (own_goes l.from) (shown (drop l.at l.statements)))
    ≡ l.initial.jumps.items ++ map (aimed (map paragraph_tree l.text.paragraphs.now)) (flat_map (own_goes l.from) (shown l.statements))

abbrev pub decreases-statements : goal.decreases-statements
decreases-statements l = length l.statements - l.at
