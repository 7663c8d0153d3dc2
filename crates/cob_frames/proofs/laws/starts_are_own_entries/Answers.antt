use Rattle.std.proofs.Common.{[]}
use Rattle.cob_meaning.specs.Meaning.{meaning}
use Rattle.cob_frames.proofs.EntrySteps.{no_calls, starts}
use Rattle.cob_frames.proofs.laws.starts_are_own_entries.Goals as goal

pub returns : goal.returns
returns c = λ party program names.
    starts party program names
    (no_calls (meaning program names []) (c.each_call_takes_a_reply.ensures program names []))
