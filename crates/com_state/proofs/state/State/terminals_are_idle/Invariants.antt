use Rattle.std.proofs.Common.{◌≡◌, ◌-◌}
use Rattle.std.specs.Prelude.{length}
use Rattle.std.specs.List.{list_all, range_with_len}
use Rattle.com_state.specs.State.{terminal_mode}
use Rattle.com_state.specs.Steps.{is_terminal_idle}
use Rattle.com_state.proofs.state.State.terminals_are_idle.Given as goal

-- what is left decides
abbrev pub invariant-loop-terminal : goal.invariant-loop-terminal
invariant-loop-terminal l =
    list_all (λ terminal. is_terminal_idle l.self terminal (terminal_mode l.self terminal)) (range_with_len l.terminal (length l.self.terminals - l.terminal))
    ≡ list_all (λ terminal. is_terminal_idle l.self terminal (terminal_mode l.self terminal)) (range_with_len 0 (length l.self.terminals))
