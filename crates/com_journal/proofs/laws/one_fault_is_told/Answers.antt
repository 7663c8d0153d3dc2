use Rattle.com_journal.proofs.JournalLaws.{one_fault}
use Rattle.com_journal.proofs.laws.one_fault_is_told.Goals as goal

pub returns : goal.returns
returns c = λ bytes fault other h k. one_fault bytes fault other h k
