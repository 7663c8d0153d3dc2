use Rattle.com_events.specs.declared.reply.Reply.TheVariants.{Done}
use Rattle.cob_meaning.specs.Meaning.{unit_limits}
use Rattle.cob_meaning.proofs.Replies.{takes_within}
use Rattle.cob_meaning.proofs.laws.each_call_takes_a_reply.Goals as goal

pub returns : goal.returns
returns c = λ program names replies. takes_within unit_limits program names Done replies
