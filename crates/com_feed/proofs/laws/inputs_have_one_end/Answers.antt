use Rattle.com_feed.proofs.Ends.{gives-unique}
use Rattle.com_feed.proofs.laws.inputs_have_one_end.Goals as goal

pub returns : goal.returns
returns c = gives-unique
