use Rattle.com_journal.proofs.JournalLaws.{same_entry}
use Rattle.com_journal.proofs.laws.a_line_is_of_one_entry.Goals as goal

pub returns : goal.returns
returns c = λ entry other line h k. same_entry entry other line h k
