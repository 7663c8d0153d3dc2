use Rattle.std.proofs.Common.{sym, ◌∙◌}
use Rattle.std.proofs.lemmas.Bool.{false≢true}
use Rattle.com_journal.proofs.Histories.{no_script_header}
use Rattle.com_journal.proofs.script.script_lines.Goals as goal

pub returns-else-is_header-clause-none : goal.returns-else-is_header-clause-none
returns-else-is_header-clause-none c =
    no_script_header c.args.bytes.now c.in-Some.line.text.now c.next_line.new.self c.in-Some.line.is_ended (rw c.new-lines.ensures at c.in-Some.ensures.line)
    (λ same. false≢true (sym c.if-is_header.false ∙ c.is_header.ensures.1 same))
