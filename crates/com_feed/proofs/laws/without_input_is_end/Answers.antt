use Rattle.com_feed.proofs.Nothing.{nothing-fed}
use Rattle.com_feed.proofs.laws.without_input_is_end.Goals as goal

pub returns : goal.returns
returns c = nothing-fed
