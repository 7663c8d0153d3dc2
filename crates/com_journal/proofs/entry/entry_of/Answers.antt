use Rattle.com_journal.proofs.Found.{found_entry, each_entry}
use Rattle.com_journal.proofs.entry.entry_of.Goals as goal

pub returns-clause-found : goal.returns-clause-found
returns-clause-found c = found_entry c.args.bytes.now c.read_entry.result c.read_entry.ensures

pub returns-clause-each_line : goal.returns-clause-each_line
returns-clause-each_line c = λ entry is. each_entry c.args.bytes.now c.read_entry.result c.read_entry.ensures entry is
