use Rattle.std.proofs.Common.{◌∙◌}
use Rattle.com_journal.specs.inner.Reading.{is_space}
use Rattle.com_journal.proofs.Fields.{place_or_end}
use Rattle.com_journal.proofs.line.word_length.Goals as goal

pub returns-clause-length : goal.returns-clause-length
returns-clause-length c = c.unwrap_or.ensures ∙ (rw c.first_space.ensures (place_or_end is_space c.args.bytes.now))
