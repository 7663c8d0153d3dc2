use Rattle.com_feed.proofs.Steps.{gives-frame}
use Rattle.com_feed.proofs.laws.settled_faults_end_inputs.Goals as goal

pub returns : goal.returns
returns c = gives-frame
