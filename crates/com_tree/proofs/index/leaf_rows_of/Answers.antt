use Rattle.std.proofs.Common.{◌≡◌, ◌<◌, ◌≤◌, ◌+◌, ℕ, suc, true, false, ◌∷◌, ◌++◌, [], length, take, get_or, refl, sym, ap, ◌∙◌, arith, inl, inr, length-append}
use Rattle.std.specs.Prelude.{List, nat_lt}
use Rattle.std.proofs.lemmas.Bool.{cases_Bool}
use Rattle.std.proofs.lemmas.Bool.Decides.{nat_tests}
use Rattle.std.proofs.lemmas.List.{get_or_append_left, get_or_push}
use Rattle.std.proofs.lemmas.List.Sums.{count_by_more_yes, count_by_more_no}
use Rattle.com_tree.specs.declared.tree.TreeRow.{TreeRow}
use Rattle.com_tree.specs.Written.{is_leaf, leaf_count, IsWritten}
use Rattle.com_tree.specs.inner.Index.{IsLeafRow}
use Rattle.com_tree.proofs.Walks.{at_most_256}
use Rattle.com_tree.proofs.index.leaf_rows_of.Goals.{then-is_leaf+in_ok-push, else-is_leaf}
use Rattle.com_tree.proofs.index.leaf_rows_of.Goals as goal

pub overflow_cast-at : goal.overflow_cast-at
overflow_cast-at c = omega (arith, c.loop-at-test.true, at_most_256 c.args.rows.now c.requires)

-- the row of one leaf more
one_more : (rows : List TreeRow) (leaves : List ℕ) (at : ℕ) (row : TreeRow) → IsWritten rows → at < length rows → row ≡ get_or rows at row → is_leaf row ≡ true → length leaves ≡ leaf_count (take at rows)
    → ((leaf : ℕ) → leaf < length leaves → IsLeafRow rows leaf (get_or leaves leaf 0))
    → (leaf : ℕ) → leaf < length (leaves ++ at ∷ []) → IsLeafRow rows leaf (get_or (leaves ++ at ∷ []) leaf 0)
one_more rows leaves at row written within is leaf_row size each leaf inside = elim (cases_Bool (nat_lt leaf (length leaves))) [
  | inl less ↦
      let before : leaf < length leaves = grind (arith, nat_tests, less) in
      rw (get_or_append_left leaves (at ∷ []) 0 leaf before) (each leaf before)
  | inr past ↦
      let beyond : length leaves ≤ leaf = grind (arith, nat_tests, past) in
      let last : length leaves ≡ leaf = omega (arith, beyond, inside, length-append leaves (at ∷ [])) in
      let counted = count_by_more_yes is_leaf rows at row within (rw (← is) leaf_row) in
      rw (get_or_push leaves at 0 leaf last) record {
        within = within;
        number = sym size ∙ last;
        past = omega (arith, counted, size, last);
      }
]

pub loop-at-preserved : goal.loop-at-preserved
loop-at-preserved c =
    let rows = c.args.rows.now in
    let at = c.loop-at.at in
    let row = c.index-rows-at.result in
    let leaves = c.loop-at.leaves.items in
    let h = c.loop-at.invariant in
    let within : at < length rows = c.loop-at-test.true in
    elim c.if-is_leaf.branch [
      | then-is_leaf+in_ok-push w ↦
          let leaf : is_leaf row ≡ true = sym c.is_leaf.ensures ∙ w.if-is_leaf.true in
          let here_leaf : is_leaf (get_or rows at row) ≡ true = rw (← c.index-rows-at.is) leaf in
          let counted = count_by_more_yes is_leaf rows at row within here_leaf in
          let pushed : c.if-is_leaf.leaves.items ≡ leaves ++ at ∷ [] = ap (λ v. v.items) w.leaves-is ∙ w.in_ok-push.ensures.items in
          record {
            size = ap length pushed ∙ (length-append leaves (at ∷ []) ∙ (ap (λ n. n + 1) h.size ∙ sym counted));
            each = rw pushed (one_more rows leaves at row c.requires within c.index-rows-at.is leaf h.size h.each);
          }
      | else-is_leaf w ↦
          let inner : is_leaf row ≡ false = sym c.is_leaf.ensures ∙ w.if-is_leaf.false in
          let here_inner : is_leaf (get_or rows at row) ≡ false = rw (← c.index-rows-at.is) inner in
          record {
            size = rw w.leaves-is (h.size ∙ sym (count_by_more_no is_leaf rows at row within here_inner));
            each = rw w.leaves-is h.each;
          }
    ]
