use Rattle.std.proofs.Common.{sym, ◌∙◌}
use Rattle.std.proofs.lemmas.Result.{IfErr-weaker}
use Rattle.com_journal.proofs.Histories.{bad_line}
use Rattle.com_journal.proofs.journal.read_journal.Goals as goal

pub returns-clause-refused : goal.returns-clause-refused
returns-clause-refused c =
    IfErr-weaker c.read_entries.result _ _ (λ e. bad_line c.args.bytes.now c.pass_header.new.lines e (sym c.new-lines.ensures ∙ c.in_ok-pass_header.ensures.passed)) c.read_entries.ensures.refused
