use Rattle.std.proofs.Common.{take}
use Rattle.mcs_top.specs.Running.{AreWritten, transcripts_in}
use Rattle.mcs_top.proofs.outputs.write_transcripts.Given as goal

-- the transcripts so far were written
abbrev pub invariant-loop-number : goal.invariant-loop-number
invariant-loop-number g l = AreWritten (transcripts_in l.state 0 (take l.number l.state.net.terminals)) (g.S.Store.shows l.fn.store) (g.S.Store.shows l.store)
