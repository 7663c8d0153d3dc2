use Rattle.std.proofs.Common.{◌≡◌, ◌<◌, ℕ, true, length, sym, ap, ◌∙◌, arith}
use Rattle.com_state.specs.State.{State, terminal_mode}
use Rattle.com_state.specs.Steps.{is_terminal_idle}
use Rattle.com_state.proofs.Doing.{all_on}
use Rattle.com_state.proofs.state.State.terminals_are_idle.Goals as goal

pub loop-terminal-preserved : goal.loop-terminal-preserved
loop-terminal-preserved c =
    let S = c.args.self.now in
    let terminal = c.loop-terminal.terminal in
    let less : terminal < length S.terminals = omega (arith, c.loop-terminal-test.true, c.len-terminal-end.ensures, ap (λ (T : State). length T.terminals) c.self.view_is) in
    let holds : is_terminal_idle S terminal (terminal_mode S terminal) ≡ true = sym c.is_terminal_idle.ensures ∙ c.if-not-is_terminal_idle.false in
    all_on (λ (terminal : ℕ). is_terminal_idle S terminal (terminal_mode S terminal)) (length S.terminals) terminal less holds ∙ c.loop-terminal.invariant
