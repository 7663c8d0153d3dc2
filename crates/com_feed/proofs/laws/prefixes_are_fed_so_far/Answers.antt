use Rattle.com_feed.proofs.Fronts.{earlier_so_far}
use Rattle.com_feed.proofs.laws.prefixes_are_fed_so_far.Goals as goal

pub returns : goal.returns
returns c = earlier_so_far
