use Rattle.std.proofs.Common.{◌≡◌, ◌-◌, drop, length, map}
use Rattle.std.specs.Prelude.{flat_map}
use Rattle.cob_forms.specs.Faults.{earlier, first}
use Rattle.cob_proc.specs.Trees.{paragraph_tree}
use Rattle.cob_code.specs.inner.Statements.{own_faults}
use Rattle.cob_code.specs.inner.Written.{shown}
use Rattle.cob_code.proofs.pass.statements_fault.Given as goal

abbrev pub invariant-statements : goal.invariant-statements
invariant-statements l =
    earlier l.found (first (flat_map (own_faults l.names (map paragraph_tree l.text.paragraphs.now)) (shown (drop l.at l.statements))))
    ≡ first (flat_map (own_faults l.names (map paragraph_tree l.text.paragraphs.now)) (shown l.statements))

abbrev pub decreases-statements : goal.decreases-statements
decreases-statements l = length l.statements - l.at
