use Rattle.com_lines.specs.Framers.{IsUnfinished}
use Rattle.message_cases.proofs.lines.fed_again.Given as goal

-- the framer goes on
abbrev pub invariant-loop-piece : goal.invariant-loop-piece
invariant-loop-piece l = IsUnfinished l.framer
