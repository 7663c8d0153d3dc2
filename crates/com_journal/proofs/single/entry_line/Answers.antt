use Rattle.std.proofs.Common.{◌∙◌, ap, List, ℕ, []}
use Rattle.com_journal.specs.inner.Writing.{with_entry}
use Rattle.com_journal.proofs.LineLaws.{spelled-line, with_entry-line}
use Rattle.com_journal.proofs.single.entry_line.Goals as goal

pub returns : goal.returns
returns c =
    let entry = c.args.entry.now in
    spelled-line entry c.put.new.out c.requires.text
    (c.in_ok-put.ensures ∙ ap (λ (l : List ℕ). with_entry l entry) c.new-line.ensures ∙ with_entry-line [] entry)
