use Rattle.com_journal.proofs.JournalLaws.{no_fault}
use Rattle.com_journal.proofs.laws.a_journal_has_no_fault.Goals as goal

pub returns : goal.returns
returns c = λ history bytes fault h f. no_fault history bytes fault h f
