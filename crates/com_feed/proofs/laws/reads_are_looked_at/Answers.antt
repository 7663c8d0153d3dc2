use Rattle.com_feed.proofs.Steps.{read-looked_at}
use Rattle.com_feed.proofs.laws.reads_are_looked_at.Goals as goal

pub returns : goal.returns
returns c = read-looked_at
