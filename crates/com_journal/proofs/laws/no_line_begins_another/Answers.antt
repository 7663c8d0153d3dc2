use Rattle.com_journal.proofs.JournalLaws.{no_prefix}
use Rattle.com_journal.proofs.laws.no_line_begins_another.Goals as goal

pub returns : goal.returns
returns c = λ entry other line longer more h k e. no_prefix entry other line longer more h k e
