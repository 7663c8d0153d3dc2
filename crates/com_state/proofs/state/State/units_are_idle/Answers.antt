use Rattle.std.proofs.Common.{◌≡◌, ◌<◌, ℕ, true, length, sym, ap, ◌∙◌, arith}
use Rattle.com_state.specs.State.{State, unit_mode}
use Rattle.com_state.specs.Steps.{is_unit_idle}
use Rattle.com_state.proofs.Doing.{all_on}
use Rattle.com_state.proofs.state.State.units_are_idle.Goals as goal

pub loop-unit-preserved : goal.loop-unit-preserved
loop-unit-preserved c =
    let S = c.args.self.now in
    let unit = c.loop-unit.unit in
    let less : unit < length S.units = omega (arith, c.loop-unit-test.true, c.len-unit-end.ensures, ap (λ (T : State). length T.units) c.self.view_is) in
    let holds : is_unit_idle S unit (unit_mode S unit) ≡ true = sym c.is_unit_idle.ensures ∙ c.if-not-is_unit_idle.false in
    all_on (λ (unit : ℕ). is_unit_idle S unit (unit_mode S unit)) (length S.units) unit less holds ∙ c.loop-unit.invariant
