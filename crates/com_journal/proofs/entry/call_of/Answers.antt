use Rattle.com_journal.proofs.Found.{found_call, each_call}
use Rattle.com_journal.proofs.entry.call_of.Goals as goal

pub returns-clause-found : goal.returns-clause-found
returns-clause-found c = found_call c.args.bytes.now c.read_call.result c.read_call.ensures

pub returns-clause-each_text : goal.returns-clause-each_text
returns-clause-each_text c = λ party call is. each_call c.args.bytes.now c.read_call.result c.read_call.ensures party call is
