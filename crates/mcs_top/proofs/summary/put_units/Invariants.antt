use Rattle.std.proofs.Common.{◌≡◌, ◌++◌, take}
use Rattle.mcs_top.specs.Outputs.{unit_lines}
use Rattle.mcs_top.proofs.summary.put_units.Given as goal

-- the lines so far
abbrev pub invariant-loop-unit : goal.invariant-loop-unit
invariant-loop-unit l = l.out ≡ l.fn.out ++ unit_lines (take l.unit-index l.units) l.ends
