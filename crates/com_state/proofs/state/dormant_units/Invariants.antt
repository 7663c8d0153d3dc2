use Rattle.std.proofs.Common.{◌≡◌, replicate}
use Rattle.com_state.specs.State.{opening_unit}
use Rattle.com_state.proofs.state.dormant_units.Given as goal

abbrev pub invariant-loop : goal.invariant-loop
invariant-loop l = l.units.items ≡ replicate l.counter opening_unit
