use Rattle.std.proofs.Common.{ap, ◌∙◌, List, ℕ, ◌++◌, ◌∷◌, []}
use Rattle.std.proofs.lemmas.Result.{on_ok_weaker}
use Rattle.com_journal.specs.Lines.{reply_fields}
use Rattle.com_journal.specs.inner.Writing.{written}
use Rattle.com_journal.proofs.LineLaws.{written_behind}
use Rattle.com_journal.proofs.entry.put_behind.Goals as goal

pub returns : goal.returns
returns c =
    let entry = c.args.entry.now in
    let before = c.in_ok-put_word.ensures ∙ ap (λ (xs : List ℕ). xs ++ 32 ∷ 61 ∷ []) c.in_ok-extend_from_slice.ensures.ok in
    on_ok_weaker c.put.result
    (λ added. added
    ∙ (ap (λ (xs : List ℕ). written xs (reply_fields entry.reply)) before
    ∙ written_behind c.args.out.now c.args.call.now entry c.requires.call.spelled)) c.put.ensures
