use Rattle.com_feed.proofs.Wholes.{first-given}
use Rattle.com_feed.proofs.laws.given_come_first.Goals as goal

pub returns : goal.returns
returns c = first-given
