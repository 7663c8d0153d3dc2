use Rattle.std.proofs.Common.{◌≡◌, ◌-◌, ◌*◌, ◌++◌}
use Rattle.com_text.specs.Name.{spaces}
use Rattle.com_cd.specs.OutputArea.{opening_output}
use Rattle.com_cd.proofs.output_area.OutArea.opening.Given as goal

-- the opening area of the occurrences so far, and spaces after it
abbrev pub invariant-loop-at : goal.invariant-loop-at
invariant-loop-at l = l.bytes ≡ opening_output l.at ++ spaces (104 - 13 * l.at)
