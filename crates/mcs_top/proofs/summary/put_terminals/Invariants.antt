use Rattle.std.proofs.Common.{◌≡◌, ◌++◌, take}
use Rattle.mcs_top.specs.Outputs.{terminal_lines}
use Rattle.mcs_top.proofs.summary.put_terminals.Given as goal

-- the lines so far
abbrev pub invariant-loop-terminal : goal.invariant-loop-terminal
invariant-loop-terminal l = l.out ≡ l.fn.out ++ terminal_lines (take l.terminal-index l.terminals) l.ends
