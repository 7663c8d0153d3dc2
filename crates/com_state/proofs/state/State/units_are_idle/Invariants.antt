use Rattle.std.proofs.Common.{◌≡◌, ◌-◌}
use Rattle.std.specs.Prelude.{length}
use Rattle.std.specs.List.{list_all, range_with_len}
use Rattle.com_state.specs.State.{unit_mode}
use Rattle.com_state.specs.Steps.{is_unit_idle}
use Rattle.com_state.proofs.state.State.units_are_idle.Given as goal

-- what is left decides
abbrev pub invariant-loop-unit : goal.invariant-loop-unit
invariant-loop-unit l =
    list_all (λ unit. is_unit_idle l.self unit (unit_mode l.self unit)) (range_with_len l.unit (length l.self.units - l.unit))
    ≡ list_all (λ unit. is_unit_idle l.self unit (unit_mode l.self unit)) (range_with_len 0 (length l.self.units))
