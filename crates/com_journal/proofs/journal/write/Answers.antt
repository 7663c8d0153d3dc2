use Rattle.std.proofs.Common.{◌≡◌, ◌∙◌, ◌++◌, ◌∷◌, [], take, ap}
use Rattle.std.specs.Prelude.{codes}
use Rattle.std.proofs.lemmas.List.{take_all}
use Rattle.com_journal.proofs.Histories.{line_written, written_journal}
use Rattle.com_journal.proofs.journal.write.Goals as goal

pub loop-entry-preserved : goal.loop-entry-preserved
loop-entry-preserved c =
    let entries = c.args.entries.now in
    let entry = c.entry-item.result in
    c.in_ok-extend_from_slice-3.ensures.ok
    ∙ (ap (λ xs. xs ++ 10 ∷ []) c.in_ok-put.ensures
    ∙ line_written (codes "MCS-JOURNAL 1\n") c.loop-entry.out entries c.loop-entry.entry-index entry entry c.loop-entry-test.true c.entry-item.is c.loop-entry.invariant)

pub returns : goal.returns
returns c =
    let entries = c.args.entries.now in
    let all : take c.loop-entry.entry-index entries ≡ entries = take_all c.loop-entry.entry-index entries c.loop-entry-test.false in
    written_journal entries c.loop-entry.out c.requires (rw all at c.loop-entry.invariant)
