use Rattle.std.proofs.Common.{map, sym, ◌∙◌, arith}
use Rattle.std.proofs.lemmas.Result.{err_from_is_err_and}
use Rattle.std.proofs.lemmas.List.{map_push}
use Rattle.cob_forms.proofs.Lists.{ends, fails, goes_on}
use Rattle.cob_proc.specs.Forms as forms
use Rattle.cob_proc.specs.Spelled.{begins_form}
use Rattle.cob_proc.specs.Trees.{block_of, trees_of}
use Rattle.cob_proc.specs.DivisionReaders.{read_sentence, read_sentences}
use Rattle.cob_proc.proofs.paragraphs.take_sentences.Goals as goal

pub returns-in_err-item-clause-gives : goal.returns-in_err-item-clause-gives
returns-in_err-item-clause-gives c =
    let p = err_from_is_err_and c.from_residual.result c.from_residual.ensures.1 in
    rw (p.1, p.2) (fails (begins_form forms.sentence) (read_sentence c.args.depth) c.in_err-item.field-0.0 (map (λ s. block_of (trees_of s.items)) c.turns.list.items) c.turns.rest.now (read_sentences c.args.depth c.args.tokens.now) (sym c.next_is_sentence.ensures ∙ c.turns-test.true) c.turns.invariant.read c.in_err-item.ensures.gives)

pub turns-preserved : goal.turns-preserved
turns-preserved c = record {
  read =
      let e = map_push (λ s. block_of (trees_of s.items)) c.turns.list.items c.in_ok-item.item in
      rw (c.in_ok-push.ensures.items, e) (goes_on (begins_form forms.sentence) (read_sentence c.args.depth) (map (λ s. block_of (trees_of s.items)) c.turns.list.items) _ c.turns.rest.now c.in_ok-item.after.now (read_sentences c.args.depth c.args.tokens.now) (sym c.next_is_sentence.ensures ∙ c.turns-test.true) c.in_ok-item.ensures.gives c.in_ok-item.ensures.fewer c.turns.invariant.read);
  fewer = omega (arith, c.in_ok-item.ensures.fewer);
}

pub returns-clause-gives : goal.returns-clause-gives
returns-clause-gives c = rw c.of_vec.ensures (ends (begins_form forms.sentence) (read_sentence c.args.depth) (map (λ s. block_of (trees_of s.items)) c.turns.list.items) c.turns.rest.now (read_sentences c.args.depth c.args.tokens.now) (sym c.next_is_sentence.ensures ∙ c.turns-test.false) c.turns.invariant.read)
