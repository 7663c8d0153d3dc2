use Rattle.std.proofs.Common.{◌≡◌, ◌<◌, ◌+◌, true, false, nat_le, get_or, length, take, sym, refl, ap, ◌∙◌, arith}
use Rattle.std.proofs.lemmas.Bool.Decides.{nat_tests}
use Rattle.std.proofs.lemmas.List.Sums.{count_by_more_yes, count_by_more_no}
use Rattle.std.proofs.lemmas.Option.{slice_get_read}
use Rattle.com_tree.specs.Written.{is_leaf, leaf_count}
use Rattle.com_tree.specs.Faults.{is_one_leaf_more, holds_at}
use Rattle.com_tree.proofs.Searching.{not_here, holds_of}
use Rattle.com_tree.proofs.build.too_many.Goals.{then-is_leaf+else-leaves-eq-MAX_LEAVES, else-is_leaf}
use Rattle.com_tree.proofs.build.too_many.Goals as goal

pub loop-at-preserved : goal.loop-at-preserved
loop-at-preserved c =
    let rows = c.args.rows.now in
    let at = c.loop-at.at in
    let row = c.index-rows-at.result in
    let leaves = c.loop-at.leaves in
    let h = c.loop-at.invariant in
    let within : at < length rows = omega arith in
    let here = holds_of (is_one_leaf_more (take at rows)) rows at row (slice_get_read rows (length rows) at row refl within c.index-rows-at.is) in
    let on = not_here (λ place. holds_at (is_one_leaf_more (take place rows)) rows place) rows at within in
    elim c.if-is_leaf.branch [
      | then-is_leaf+else-leaves-eq-MAX_LEAVES w ↦
          let leaf : is_leaf row ≡ true = sym c.is_leaf.ensures ∙ w.if-is_leaf.true in
          let few : nat_le 64 (leaf_count (take at rows)) ≡ false = grind (arith, nat_tests, w.if-leaves-eq-MAX_LEAVES.false, h.few, h.counted) in
          let fails : is_one_leaf_more (take at rows) row ≡ false = rw (leaf, few, is_one_leaf_more) refl in
          let here_leaf : is_leaf (get_or rows at row) ≡ true = rw (← c.index-rows-at.is) leaf in
          record {
            found = sym (on (here ∙ fails)) ∙ h.found;
            counted = w.leaves-is ∙ (ap (λ n. n + 1) h.counted ∙ sym (count_by_more_yes is_leaf rows at row within here_leaf));
            few = omega (arith, w.leaves-is, h.few, w.if-leaves-eq-MAX_LEAVES.false);
          }
      | else-is_leaf w ↦
          let inner : is_leaf row ≡ false = sym c.is_leaf.ensures ∙ w.if-is_leaf.false in
          let fails : is_one_leaf_more (take at rows) row ≡ false = rw (inner, is_one_leaf_more) refl in
          let here_inner : is_leaf (get_or rows at row) ≡ false = rw (← c.index-rows-at.is) inner in
          record {
            found = sym (on (here ∙ fails)) ∙ h.found;
            counted = w.leaves-is ∙ (h.counted ∙ sym (count_by_more_no is_leaf rows at row within here_inner));
            few = omega (arith, w.leaves-is, h.few);
          }
    ]
