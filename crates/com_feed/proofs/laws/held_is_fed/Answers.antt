use Rattle.com_feed.proofs.Steps.{fed-held}
use Rattle.com_feed.proofs.laws.held_is_fed.Goals as goal

pub returns : goal.returns
returns c = fed-held
