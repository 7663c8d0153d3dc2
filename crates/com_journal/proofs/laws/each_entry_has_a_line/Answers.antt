use Rattle.std.proofs.Common.{refl}
use Rattle.com_journal.proofs.LineLaws.{line_spelled, spelled-line}
use Rattle.com_journal.proofs.laws.each_entry_has_a_line.Goals as goal

pub returns : goal.returns
returns c = λ entry h. (line_spelled entry, spelled-line entry (line_spelled entry) h refl)
