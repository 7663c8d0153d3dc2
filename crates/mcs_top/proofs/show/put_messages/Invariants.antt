use Rattle.std.proofs.Common.{◌≡◌, ◌+◌, ◌++◌, drop}
use Rattle.mcs_top.specs.Show.{message_lines}
use Rattle.mcs_top.proofs.show.put_messages.Given as goal

-- what is left gives the lines that are missing
abbrev pub invariant-loop-message : goal.invariant-loop-message
invariant-loop-message l =
    (l.number ≡ l.message-index)
    × (l.out ++ message_lines (l.number + 1) (drop l.message-index l.messages) ≡ l.fn.out ++ message_lines 1 l.messages)
