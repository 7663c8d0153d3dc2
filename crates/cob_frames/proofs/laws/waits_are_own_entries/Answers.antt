use Rattle.cob_frames.proofs.EntrySteps.{waits_on}
use Rattle.cob_frames.proofs.laws.waits_are_own_entries.Goals as goal

pub returns : goal.returns
returns c = λ party program names replies entries call o is wanted.
    waits_on party program names replies entries o call is wanted
