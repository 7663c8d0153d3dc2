use Rattle.com_events.specs.declared.reply.Reply.TheVariants.{Done}
use Rattle.cob_meaning.proofs.Replies.{few_within}
use Rattle.cob_meaning.proofs.laws.calls_are_within_limits.Goals as goal

pub returns : goal.returns
returns c = λ limits program names replies. few_within limits program names Done replies
