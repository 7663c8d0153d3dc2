use Rattle.com_journal.proofs.JournalLaws.{same_line}
use Rattle.com_journal.proofs.laws.an_entry_has_one_line.Goals as goal

pub returns : goal.returns
returns c = λ entry line other h k. same_line entry line other h k
