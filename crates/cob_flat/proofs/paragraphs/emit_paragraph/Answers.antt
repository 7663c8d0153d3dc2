use Rattle.std.proofs.Common.{◌≡◌, ◌<◌, ◌+◌, ◌-◌, arith, ap, drop, length, map, subst, sym, ◌∙◌}
use Rattle.std.specs.List.{AllByRecursion}
use Rattle.cob_proc.specs.Trees.{paragraph_tree}
use Rattle.cob_meaning.specs.Checked.{AreChecked}
use Rattle.cob_flat.specs.inner.Emitted.{SentencesEmitted}
use Rattle.cob_flat.specs.inner.Written.{block_by}
use Rattle.cob_flat.proofs.Emission.{emits_sentence, extends_on}
use Rattle.cob_flat.proofs.Rows.{next_sentence, sentence_block, sound_sentence}
use Rattle.cob_flat.proofs.paragraphs.emit_paragraph.Goals as goal

pub emit_statements-requires : goal.emit_statements-requires
emit_statements-requires c =
    let text = map paragraph_tree c.args.text.now in
    let layout = c.args.names.now in
    let all = c.as_slice-sentences.result.now in
    let within : c.sentences.left - 1 < length all = omega (arith, c.sentences.invariant.within, c.sentences-test.true) in
    sound_sentence layout text all (c.sentences.left - 1) _ c.deref.result.now within
    (c.deref.ensures.value ∙ ap (λ s. s.items) c.index-sentences-left.is)
    (subst (λ l. AllByRecursion (AreChecked layout text) (map sentence_block l)) (sym c.as_slice-sentences.ensures) c.requires.checked)

pub sentences-preserved : goal.sentences-preserved
sentences-preserved c =
    let text = map paragraph_tree c.args.text.now in
    let layout = c.args.names.now in
    let all = c.as_slice-sentences.result.now in
    let left = c.sentences.left in
    let before = c.sentences.code.items in
    let after = c.emit_statements.new.code.items in
    let within : left - 1 < length all = omega (arith, c.sentences.invariant.within, c.sentences-test.true) in
    let next : left - 1 + 1 ≡ left = omega (arith, c.sentences-test.true) in
    let one = next_sentence all (left - 1) left _ c.deref.result.now within next (c.deref.ensures.value ∙ ap (λ s. s.items) c.index-sentences-left.is) in
    let more = c.in_ok-place.ensures.extends in
    record {
      within = omega (arith, within);
      extends = extends_on c.put.new.code.items before after c.sentences.invariant.extends more;
      put = λ all g. c.sentences.invariant.put all (extends_on before after all more g);
      does = subst (λ b. SentencesEmitted layout text after b c.in_ok-place.place c.in_ok-end.end) (sym one)
          (emits_sentence layout text before after (block_by c.deref.result.now) (drop left (map sentence_block all)) c.in_ok-place.place c.sentences.place c.in_ok-end.end
          c.sentences.invariant.does more c.in_ok-place.ensures.does);
    }
