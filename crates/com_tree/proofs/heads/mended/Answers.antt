use Rattle.std.proofs.Common.{inl, inr, ◌≡◌, ℕ, ◌<◌, ◌≤◌, ◌+◌, ◌-◌, suc, true, false, None, length, drop, get_or, refl, sym, ap, ◌∙◌, arith, length-drop}
use Rattle.std.specs.Prelude.{◌==◌, Some, slice_get, option_map}
use Rattle.std.proofs.lemmas.Bool.Decides.{nat_tests}
use Rattle.std.proofs.lemmas.Option.{slice_get_read}
use Rattle.com_tree.specs.declared.index.Place.{Place}
use Rattle.com_tree.specs.Written.{is_deeper, rows_below}
use Rattle.com_tree.specs.NextLeaf.{choice, head_on, node_at}
use Rattle.com_tree.specs.inner.Index.{IsPlace}
use Rattle.com_tree.proofs.Branches.{branch_length, few_below}
use Rattle.com_tree.proofs.Choices.{none_chosen, child_here, no_child, child_test, all_children, choice_of_leaf}
use Rattle.com_tree.proofs.Levels.{enough_levels}
use Rattle.com_tree.proofs.Underneath.{node_of}
use Rattle.com_tree.proofs.heads.mended.Goals as goal

abbrev no_place : Place
no_place = record { first = 0; past = 0; below = 0; apart = 0 }

pub returns-in-None : goal.returns-in-None
returns-in-None c =
    let rows = c.args.rows.now in
    let at = c.args.at in
    let row = c.index-rows-at.result in
    let heads = head_on c.args.numbers.now in
    let within : at < length c.args.places.now = omega (arith, c.requires.at, c.requires.size.0) in
    let place : IsPlace rows at (get_or c.args.places.now at no_place) = c.requires.places at no_place within in
    let here = slice_get_read rows (length rows) at row refl c.requires.at c.index-rows-at.is in
    record {
      choice = c.leaf_with_head.ensures.leaf
          ∙ (ap (λ n. option_map (λ arrival. n) (heads n)) place.first ∙ sym (choice_of_leaf 3 rows heads at row here c.in-None.is));
    }

pub loop-child-init : goal.loop-child-init
loop-child-init c =
    let rows = c.args.rows.now in
    let at = c.args.at in
    let row = c.index-rows-at.result in
    let below = length (rows_below row.depth (drop (at + 1) rows)) in
    let inside : at < length c.args.places.now = omega (arith, c.requires.at, c.requires.size.0) in
    let place : IsPlace rows at (get_or c.args.places.now at no_place) = c.requires.places at no_place inside in
    let size : suc (get_or c.args.places.now at no_place).below ≡ 1 + below = place.below ∙ branch_length rows at row c.requires.at c.index-rows-at.is in
    let none : at + 1 + below - (at + 1 + (get_or c.args.places.now at no_place).below) ≡ 0 = omega (arith, size) in
    record {
      chosen = rw none (none_chosen 4 rows (head_on c.args.numbers.now) c.in-Some.choose (node_at at) (at + 1 + (get_or c.args.places.now at no_place).below));
      least = omega (arith, size);
      most = omega (arith, size);
      within = omega (arith, few_below (is_deeper row.depth) (drop (at + 1) rows), length-drop (at + 1) rows, c.requires.at);
    }

-- how many rows there are from a child on, and from the one before
one_more : (past child : ℕ) → 1 ≤ child → child ≤ past → past - (child - 1) ≡ suc (past - child)
one_more past child some within = omega arith

pub loop-child-preserved-then-rows-child : goal.loop-child-preserved-then-rows-child
loop-child-preserved-then-rows-child c =
    let rows = c.args.rows.now in
    let at = c.args.at in
    let row = c.index-rows-at.result in
    let child = c.loop-child.child in
    let other = c.index-rows-child.result in
    let h = c.loop-child.invariant in
    let past = at + 1 + length (rows_below row.depth (drop (at + 1) rows)) in
    let here = slice_get_read rows (length rows) at row refl c.requires.at c.index-rows-at.is in
    let there = slice_get_read rows (length rows) (child - 1) other refl (omega arith) c.index-rows-child.is in
    let below : (other.depth == row.depth + 1) ≡ true = grind (arith, nat_tests, c.if-rows-child.true) in
    let is = child_test rows at (child - 1) row other here there ∙ below in
    let found : get_or c.args.choices.now (child - 1) None ≡ choice 4 rows (head_on c.args.numbers.now) (node_at (child - 1)) = c.requires.below (child - 1) (omega arith) (omega arith) in
    record {
      chosen = c.better-chosen.ensures.better
          ∙ child_here 4 rows (head_on c.args.numbers.now) c.in-Some.choose (node_at at) (child - 1) child (past - child) (past - (child - 1)) (get_or c.args.choices.now (child - 1) None) c.loop-child.chosen
          (omega arith) (one_more past child (omega arith) h.most) is found h.chosen;
      least = omega arith;
      most = omega arith;
      within = h.within;
    }

pub loop-child-preserved : goal.loop-child-preserved
loop-child-preserved c =
    let rows = c.args.rows.now in
    let at = c.args.at in
    let row = c.index-rows-at.result in
    let child = c.loop-child.child in
    let other = c.index-rows-child.result in
    let h = c.loop-child.invariant in
    let past = at + 1 + length (rows_below row.depth (drop (at + 1) rows)) in
    let here = slice_get_read rows (length rows) at row refl c.requires.at c.index-rows-at.is in
    let there = slice_get_read rows (length rows) (child - 1) other refl (omega arith) c.index-rows-child.is in
    let apart : (other.depth == row.depth + 1) ≡ false = grind (arith, nat_tests, c.if-rows-child.false) in
    let is = child_test rows at (child - 1) row other here there ∙ apart in
    record {
      chosen = no_child 4 rows (head_on c.args.numbers.now) c.in-Some.choose (node_at at) (child - 1) child (past - child) (past - (child - 1)) c.loop-child.chosen
          (omega arith) (one_more past child (omega arith) h.most) is h.chosen;
      least = omega arith;
      most = omega arith;
      within = h.within;
    }

pub returns : goal.returns
returns c =
    let rows = c.args.rows.now in
    let at = c.args.at in
    let row = c.index-rows-at.result in
    let h = c.loop-child.invariant in
    let heads = head_on c.args.numbers.now in
    let past = at + 1 + length (rows_below row.depth (drop (at + 1) rows)) in
    let here = slice_get_read rows (length rows) at row refl c.requires.at c.index-rows-at.is in
    let deep = (node_of rows at row c.requires.written here).step.least in
    record {
      choice = all_children 5 4 rows heads at c.loop-child.child (past - c.loop-child.child) row c.in-Some.choose c.loop-child.chosen here c.in-Some.is
          refl (omega (arith, h.least, c.loop-child-test.false)) (omega (arith, h.least, c.loop-child-test.false)) h.chosen
          ∙ enough_levels 4 rows heads at row c.requires.written here (omega (arith, deep));
    }
