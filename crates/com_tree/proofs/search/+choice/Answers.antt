use Rattle.std.proofs.Common.{inl, inr, ◌≡◌, ℕ, ◌≤◌, ◌+◌, ◌-◌, suc, true, false, length, drop, refl, ap, ◌∙◌, arith}
use Rattle.std.specs.Prelude.{◌==◌}
use Rattle.std.proofs.lemmas.Bool.Decides.{nat_tests}
use Rattle.std.proofs.lemmas.Option.{slice_get_read}
use Rattle.com_tree.specs.Written.{rows_below}
use Rattle.com_tree.specs.NextLeaf.{head_on, node_at}
use Rattle.com_tree.proofs.Branches.{branch_length}
use Rattle.com_tree.proofs.Choices.{none_chosen, child_here, no_child, child_test, all_children}
use Rattle.com_tree.proofs.search.+choice.Goals as goal

pub loop-child-init : goal.loop-child-init
loop-child-init t c =
    let rows = c.args.rows.now in
    let at = c.args.at in
    let row = c.index-rows-at.result in
    let below = length (rows_below row.depth (drop (at + 1) rows)) in
    let size : length c.branch-child.result.now ≡ 1 + below = ap length c.branch-child.ensures.branch ∙ branch_length rows at row c.requires.at c.index-rows-at.is in
    let none : at + 1 + below - (at + length c.branch-child.result.now) ≡ 0 = omega (arith, size) in
    record {
      chosen = rw none (none_chosen (c.args.levels - 1) rows (head_on c.args.heads.now) c.in-Some.choose (node_at at) (at + length c.branch-child.result.now));
      least = omega (arith, size);
      most = omega (arith, size);
      within = omega (arith, size, c.branch-child.ensures.within);
      leaf = tt;
    }

-- how many rows there are from a child on, and from the one before
one_more : (past child : ℕ) → 1 ≤ child → child ≤ past → past - (child - 1) ≡ suc (past - child)
one_more past child some within = omega arith

pub loop-child-preserved-then-rows-child : goal.loop-child-preserved-then-rows-child
loop-child-preserved-then-rows-child t c =
    let rows = c.args.rows.now in
    let at = c.args.at in
    let row = c.index-rows-at.result in
    let child = c.loop-child.child in
    let other = c.index-rows-child.result in
    let h = c.loop-child.invariant in
    let past = at + 1 + length (rows_below row.depth (drop (at + 1) rows)) in
    let here = slice_get_read rows (length rows) at row refl c.requires.at c.index-rows-at.is in
    let there = slice_get_read rows (length rows) (child - 1) other refl (omega arith) c.index-rows-child.is in
    let below : (other.depth == row.depth + 1) ≡ true = grind (arith, nat_tests, c.if-rows-child.true) in
    let is = child_test rows at (child - 1) row other here there ∙ below in
    record {
      chosen = c.better-chosen.ensures.better
          ∙ child_here (c.args.levels - 1) rows (head_on c.args.heads.now) c.in-Some.choose (node_at at) (child - 1) child (past - child) (past - (child - 1)) c.choice-found.result c.loop-child.chosen
          (omega arith) (one_more past child (omega arith) h.most) is c.choice-found.ensures.choice h.chosen;
      least = omega arith;
      most = omega arith;
      within = h.within;
      leaf = elim c.better-chosen.ensures.one [
        | inl first ↦ rw first c.choice-found.ensures.within
        | inr behind ↦ rw behind h.leaf
      ];
    }

pub loop-child-preserved : goal.loop-child-preserved
loop-child-preserved t c =
    let rows = c.args.rows.now in
    let at = c.args.at in
    let row = c.index-rows-at.result in
    let child = c.loop-child.child in
    let other = c.index-rows-child.result in
    let h = c.loop-child.invariant in
    let past = at + 1 + length (rows_below row.depth (drop (at + 1) rows)) in
    let here = slice_get_read rows (length rows) at row refl c.requires.at c.index-rows-at.is in
    let there = slice_get_read rows (length rows) (child - 1) other refl (omega arith) c.index-rows-child.is in
    let apart : (other.depth == row.depth + 1) ≡ false = grind (arith, nat_tests, c.if-rows-child.false) in
    let is = child_test rows at (child - 1) row other here there ∙ apart in
    record {
      chosen = no_child (c.args.levels - 1) rows (head_on c.args.heads.now) c.in-Some.choose (node_at at) (child - 1) child (past - child) (past - (child - 1)) c.loop-child.chosen
          (omega arith) (one_more past child (omega arith) h.most) is h.chosen;
      least = omega arith;
      most = omega arith;
      within = h.within;
      leaf = h.leaf;
    }

pub returns-clause-choice : goal.returns-clause-choice
returns-clause-choice t c =
    let rows = c.args.rows.now in
    let at = c.args.at in
    let row = c.index-rows-at.result in
    let h = c.loop-child.invariant in
    let past = at + 1 + length (rows_below row.depth (drop (at + 1) rows)) in
    let here = slice_get_read rows (length rows) at row refl c.requires.at c.index-rows-at.is in
    all_children c.args.levels (c.args.levels - 1) rows (head_on c.args.heads.now) at c.loop-child.child (past - c.loop-child.child) row c.in-Some.choose c.loop-child.chosen here c.in-Some.is
    (omega (arith, c.if-levels-eq0.false)) (omega (arith, h.least, c.loop-child-test.false)) (omega (arith, h.least, c.loop-child-test.false)) h.chosen
