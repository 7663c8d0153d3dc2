use Rattle.std.proofs.Common.{◌∙◌}
use Rattle.com_journal.specs.Scripts.{is_line_feed}
use Rattle.com_journal.proofs.Fields.{place_or_end}
use Rattle.com_journal.proofs.split.line_length.Goals as goal

pub returns-clause-length : goal.returns-clause-length
returns-clause-length c = c.unwrap_or.ensures ∙ (rw c.line_feed_in.ensures (place_or_end is_line_feed c.args.bytes.now))
