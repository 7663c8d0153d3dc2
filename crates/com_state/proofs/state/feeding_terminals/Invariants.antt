use Rattle.std.proofs.Common.{◌≡◌, replicate}
use Rattle.com_state.specs.State.{opening_terminal}
use Rattle.com_state.proofs.state.feeding_terminals.Given as goal

abbrev pub invariant-loop : goal.invariant-loop
invariant-loop l = l.terminals.items ≡ replicate l.counter opening_terminal
