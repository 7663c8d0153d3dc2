use Rattle.std.proofs.Common.{map, sym, ap, ◌∙◌, ◌++◌, refl, rules}
use Rattle.std.specs.Prelude.{flat_map}
use Rattle.cob_proc.specs.Trees.{paragraph_tree}
use Rattle.cob_meaning.specs.Ranges.{all_goes, all_performs, goes_from, performs_from}
use Rattle.cob_code.specs.inner.Numbered.{aimed, numbered}
use Rattle.cob_code.specs.inner.Statements.{own_goes, own_performs}
use Rattle.cob_code.specs.inner.Written.{shown}
use Rattle.cob_code.proofs.InTrees.{next_paragraph, paragraph_goes, paragraph_performs}
use Rattle.cob_code.proofs.ranges.ranges_and_jumps.Goals as goal

pub paragraphs-preserved : goal.paragraphs-preserved
paragraphs-preserved c =
    let paragraphs = c.args.text.now.paragraphs.now in
    let text = map paragraph_tree paragraphs in
    let from = c.paragraphs.from in
    let here = paragraph_tree c.index-paragraphs-from.result in
    let performed = c.in_ok-push_ranges.ensures
    ∙ ap (λ trees. c.paragraphs.ranges.items ++ map (numbered text) (flat_map (own_performs from) trees)) (ap shown c.deref.ensures.value ∙ c.in_ok-statements.ensures)
    ∙ ap (λ all. c.paragraphs.ranges.items ++ map (numbered text) all) (sym (paragraph_performs from here)) in
    let gone = c.in_ok-push_jumps.ensures
    ∙ ap (λ trees. c.paragraphs.jumps.items ++ map (aimed text) (flat_map (own_goes from) trees)) (ap shown c.deref-in-paragraphs.ensures.value ∙ c.in_ok-statements.ensures)
    ∙ ap (λ all. c.paragraphs.jumps.items ++ map (aimed text) all) (sym (paragraph_goes from here)) in
    record {
      within = search rules;
      ranges = next_paragraph (numbered text) (λ k p. flat_map (all_performs k) p.sentences) performs_from (λ k p ps. refl) paragraphs from c.index-paragraphs-from.result _ _ c.paragraphs-test.true
          (rw c.index-paragraphs-from.is at performed) ∙ c.paragraphs.invariant.ranges;
      jumps = next_paragraph (aimed text) (λ k p. flat_map (all_goes k) p.sentences) goes_from (λ k p ps. refl) paragraphs from c.index-paragraphs-from.result _ _ c.paragraphs-test.true
          (rw c.index-paragraphs-from.is at gone) ∙ c.paragraphs.invariant.jumps;
    }
