use Rattle.com_feed.proofs.Steps.{fed-ends}
use Rattle.com_feed.proofs.laws.ends_are_fed.Goals as goal

pub returns : goal.returns
returns c = fed-ends
