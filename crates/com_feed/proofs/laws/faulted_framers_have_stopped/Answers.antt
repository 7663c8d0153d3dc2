use Rattle.com_feed.proofs.Steps.{faulted-stopped}
use Rattle.com_feed.proofs.laws.faulted_framers_have_stopped.Goals as goal

pub returns : goal.returns
returns c = faulted-stopped
