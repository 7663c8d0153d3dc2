use Rattle.std.proofs.Common.{◌≡◌, ◌<◌, length, Some, refl, ap, ◌∙◌}
use Rattle.std.specs.Prelude.{slice_get}
use Rattle.std.proofs.lemmas.Option.{slice_get_read}
use Rattle.com_state.specs.State.{State}
use Rattle.com_state.specs.Inside.{system}
use Rattle.com_state.specs.Steps.{with_terminal_mode}
use Rattle.com_state.proofs.Holding.{system_terminal_mode, terminal_mode_is}
use Rattle.com_state.proofs.state.State.set_terminal_mode.Goals as goal

pub invariant_of-self : goal.invariant_of-self
invariant_of-self c =
    let terminals = c.self.inside.terminals.items in
    let within : c.args.terminal < length terminals = rw (← c.self.view_is) at c.requires in
    let t = c.index_mut.result.now in
    let there : slice_get terminals c.args.terminal ≡ Some t = slice_get_read terminals (length terminals) c.args.terminal t refl within c.index_mut.ensures.value in
    record {
      system = system_terminal_mode (system c.self.inside) c.args.terminal t c.args.mode there c.self.invariant.system;
      destinations = c.self.invariant.destinations;
      units = c.self.invariant.units;
    }

pub returns : goal.returns
returns c =
    let terminals = c.self.inside.terminals.items in
    let within : c.args.terminal < length terminals = rw (← c.self.view_is) at c.requires in
    let t = c.index_mut.result.now in
    let there : slice_get terminals c.args.terminal ≡ Some t = slice_get_read terminals (length terminals) c.args.terminal t refl within c.index_mut.ensures.value in
    terminal_mode_is (system c.self.inside) c.args.terminal t c.args.mode there
    ∙ ap (λ (S : State). with_terminal_mode c.args.terminal c.args.mode S) c.self.view_is
