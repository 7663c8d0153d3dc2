use Rattle.com_feed.proofs.Steps.{full-looked_at}
use Rattle.com_feed.proofs.laws.full_reads_are_all.Goals as goal

pub returns : goal.returns
returns c = full-looked_at
