use Rattle.cob_meaning.specs.Meaning.{unit_limits}
use Rattle.cob_meaning.proofs.Replies.{goes_on_within}
use Rattle.cob_meaning.proofs.laws.more_replies_go_on.Goals as goal

pub returns : goal.returns
returns c = λ program names replies more reply. goes_on_within unit_limits program names replies more reply
