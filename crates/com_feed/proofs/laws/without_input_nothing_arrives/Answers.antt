use Rattle.com_feed.proofs.Nothing.{nothing-arrives}
use Rattle.com_feed.proofs.laws.without_input_nothing_arrives.Goals as goal

pub returns : goal.returns
returns c = nothing-arrives
