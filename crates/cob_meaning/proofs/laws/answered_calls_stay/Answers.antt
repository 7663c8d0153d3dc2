use Rattle.cob_meaning.proofs.Replies.{calls_stay}
use Rattle.cob_meaning.proofs.laws.answered_calls_stay.Goals as goal

pub returns : goal.returns
returns c = calls_stay
