use Rattle.std.proofs.Common.{◌≡◌, length, take}
use Rattle.com_state.specs.Transcripts.{sent_in}
use Rattle.mcs_top.proofs.summary.transmitted.Given as goal

-- the messages to the terminals so far
abbrev pub invariant-loop-terminal : goal.invariant-loop-terminal
invariant-loop-terminal l = l.total ≡ length (sent_in (take l.terminal l.state.outgoing))
