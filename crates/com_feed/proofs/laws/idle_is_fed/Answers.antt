use Rattle.com_feed.proofs.Steps.{fed-idle}
use Rattle.com_feed.proofs.laws.idle_is_fed.Goals as goal

pub returns : goal.returns
returns c = fed-idle
