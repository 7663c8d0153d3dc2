use Rattle.std.proofs.Common.{◌≡◌, [], ◌++◌, drop, sym, ap, ◌∙◌}
use Rattle.std.specs.Prelude.{flat_map}
use Rattle.std.proofs.lemmas.List.{append-nil, drop_all}
use Rattle.cob_code.specs.inner.Written.{shown}
use Rattle.cob_code.proofs.Rows.{in_list, paragraph_list}
use Rattle.cob_code.proofs.statements.statements_of.Goals as goal

pub returns : goal.returns
returns c =
    let none : drop c.sentences.sentence-index c.as_slice-sentence-items.result.now ≡ [] = drop_all c.sentences.sentence-index c.as_slice-sentence-items.result.now c.sentences-test.false in
    sym (append-nil (shown c.sentences.list.items)) ∙ ap (λ l. shown c.sentences.list.items ++ flat_map (λ sentence. in_list sentence.items) l) (sym none) ∙ c.sentences.invariant
    ∙ ap (flat_map (λ sentence. in_list sentence.items)) c.as_slice-sentence-items.ensures ∙ sym (paragraph_list c.args.paragraph.now.sentences)
