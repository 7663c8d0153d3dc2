use Rattle.std.proofs.Common.{rules}
use Rattle.com_journal.proofs.Spelled.{written-append}
use Rattle.com_journal.proofs.send.put_call.Goals as goal

pub returns : goal.returns
returns c = rw written-append (search rules)
