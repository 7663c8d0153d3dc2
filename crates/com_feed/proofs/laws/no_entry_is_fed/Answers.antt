use Rattle.com_feed.proofs.Steps.{fed-none}
use Rattle.com_feed.proofs.laws.no_entry_is_fed.Goals as goal

pub returns : goal.returns
returns c = fed-none
