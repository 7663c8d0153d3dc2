use Rattle.com_journal.proofs.LineLengths.{short_line}
use Rattle.com_journal.proofs.laws.a_line_is_short.Goals as goal

pub returns : goal.returns
returns c = λ entry line h. short_line entry line h
