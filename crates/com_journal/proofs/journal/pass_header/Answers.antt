use Rattle.std.proofs.Common.{sym, ◌∙◌}
use Rattle.std.proofs.lemmas.Bool.{false≢true}
use Rattle.com_journal.proofs.Histories.{wrong_header}
use Rattle.com_journal.proofs.journal.pass_header.Goals as goal

pub returns-then-not-is_header-clause-refused : goal.returns-then-not-is_header-clause-refused
returns-then-not-is_header-clause-refused c =
    rw c.refused-then-not-is_header.ensures (wrong_header c.args.lines.now c.in-Some.line.text.now c.next_line.new.self c.in-Some.line.is_ended c.in-Some.ensures.line
    (λ same. false≢true (sym c.if-not-is_header.true ∙ c.is_header.ensures.1 same)))
