use Rattle.std.proofs.Common.{add-one}
use Rattle.cob_meaning.proofs.Bounds.{range_more}
use Rattle.cob_meaning.proofs.laws.more_bound_changes_nothing.Goals as goal

pub returns : goal.returns
returns c = λ bound layout text begin last run lt. rw add-one (range_more bound layout text begin last run lt)
