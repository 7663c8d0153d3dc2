use Rattle.cob_frames.proofs.EntrySteps.{own_so_far}
use Rattle.cob_frames.proofs.laws.own_entries_are_so_far.Goals as goal

pub returns : goal.returns
returns c = own_so_far
