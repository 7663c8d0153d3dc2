use Rattle.com_feed.proofs.Wholes.{first-front}
use Rattle.com_feed.proofs.laws.prefixes_come_first.Goals as goal

pub returns : goal.returns
returns c = first-front
