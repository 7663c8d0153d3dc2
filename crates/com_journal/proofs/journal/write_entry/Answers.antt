use Rattle.std.proofs.Common.{refl, ap, List, ℕ, ◌++◌, ◌∷◌, [], ◌∙◌, append_assoc}
use Rattle.std.proofs.lemmas.Result.{on_ok_weaker}
use Rattle.com_journal.proofs.LineLaws.{line_spelled, spelled-line, with_entry-line}
use Rattle.com_journal.proofs.journal.write_entry.Goals as goal

pub returns : goal.returns
returns c =
    let entry = c.args.entry.now in
    let line = line_spelled entry in
    let put = ap (λ (xs : List ℕ). xs ++ 10 ∷ []) (c.in_ok-put_behind.ensures ∙ with_entry-line c.args.into.now entry) in
    on_ok_weaker c.extend_from_slice.result
    (λ ended. (line, spelled-line entry line c.requires.text refl, ended ∙ (put ∙ append_assoc c.args.into.now line (10 ∷ [])))) c.extend_from_slice.ensures.ok
