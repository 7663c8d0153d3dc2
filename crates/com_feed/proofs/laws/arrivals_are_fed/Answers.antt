use Rattle.com_feed.proofs.Steps.{fed-arrives}
use Rattle.com_feed.proofs.laws.arrivals_are_fed.Goals as goal

pub returns : goal.returns
returns c = fed-arrives
