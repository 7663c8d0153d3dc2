use Rattle.com_feed.proofs.Wholes.{ends-exist}
use Rattle.com_feed.proofs.laws.inputs_have_an_end.Goals as goal

pub returns : goal.returns
returns c = ends-exist
