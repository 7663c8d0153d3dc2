use Rattle.com_feed.proofs.Wholes.{first-finished}
use Rattle.com_feed.proofs.laws.finished_come_first.Goals as goal

pub returns : goal.returns
returns c = first-finished
