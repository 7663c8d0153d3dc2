use Rattle.com_journal.proofs.JournalLaws.{same_history}
use Rattle.com_journal.proofs.laws.a_journal_is_of_one_history.Goals as goal

pub returns : goal.returns
returns c = λ history other bytes h k. same_history history other bytes h k
