use Rattle.com_journal.proofs.Countable.{call_countable, reply_countable}
use Rattle.com_journal.proofs.entry.put.Goals as goal

pub put-requires : goal.put-requires
put-requires c = call_countable c.args.entry.now.call c.requires.call

pub put-requires-2 : goal.put-requires-2
put-requires-2 c = reply_countable c.args.entry.now.call c.args.entry.now.reply c.requires.reply
