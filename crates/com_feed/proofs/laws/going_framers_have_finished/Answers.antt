use Rattle.com_feed.proofs.Steps.{going-finished}
use Rattle.com_feed.proofs.laws.going_framers_have_finished.Goals as goal

pub returns : goal.returns
returns c = going-finished
