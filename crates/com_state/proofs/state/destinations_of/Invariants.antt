use Rattle.std.proofs.Common.{◌≡◌, map, take}
use Rattle.com_state.proofs.state.destinations_of.Given as goal

-- so many terminals are destinations
abbrev pub invariant-loop-terminal : goal.invariant-loop-terminal
invariant-loop-terminal l = l.destinations.items ≡ map (λ terminal. record { name = terminal.name; password = terminal.password; on = terminal.output_on }) (take l.terminal-index l.terminals)
