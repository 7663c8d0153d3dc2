use Rattle.std.proofs.Common.{inl, inr, ◌≡◌, ℕ, ◌<◌, ◌≤◌, ◌+◌, ◌-◌, ◌⊎◌, nat_lt, true, false, List, None, length, get_or, set, refl, sym, ap, ◌∙◌, arith}
use Rattle.std.specs.Prelude.{◌==◌, Option}
use Rattle.std.proofs.lemmas.List.{length-set}
use Rattle.com_tree.specs.declared.tree.TreeRow.{TreeRow}
use Rattle.com_tree.specs.declared.index.Place.{Place}
use Rattle.com_tree.specs.Places.{first_leaf}
use Rattle.com_tree.specs.NextLeaf.{choice, head_on, node_at}
use Rattle.com_tree.specs.CachedHeads.{IsRight}
use Rattle.com_tree.specs.UnderNodes.{is_over}
use Rattle.com_tree.specs.inner.Index.{IsPlace}
use Rattle.com_tree.proofs.OverLeaf.{none_after, none_between, written, below_or_not}
use Rattle.com_tree.proofs.heads.mend_above.Goals as goal

abbrev no_place : Place
no_place = record { first = 0; past = 0; below = 0; apart = 0 }

pub loop-past-init : goal.loop-past-init
loop-past-init c =
    let tree = c.args.tree.now in
    let leaf = first_leaf tree (node_at c.args.row) in
    record {
      within = omega arith;
      size = c.requires.size.0;
      right = λ other within past. c.requires.others other within (none_after tree leaf c.args.row other c.requires.leaf past);
      others = c.requires.others;
    }

-- what holds over the rows of the tree holds over those that it shows
below_shown : (rows shown : List TreeRow) (numbers choices given : List (Option ℕ)) (at : ℕ) → shown ≡ rows → given ≡ choices
    → ((row : ℕ) → at < row → row < length rows → IsRight rows numbers choices row) → (row : ℕ) → at < row → row < length shown → IsRight shown numbers given row
below_shown rows shown numbers choices given at same is right = rw (same, is) right

over_rows : (rows shown : List TreeRow) (numbers : List (Option ℕ)) (at : ℕ) (found : Option ℕ) → shown ≡ rows → found ≡ choice 4 shown (head_on numbers) (node_at at) → found ≡ choice 4 rows (head_on numbers) (node_at at)
over_rows rows shown numbers at found same is = is ∙ ap (λ r. choice 4 r (head_on numbers) (node_at at)) same

pub mended-choice-requires-clause-below : goal.mended-choice-requires-clause-below
mended-choice-requires-clause-below c =
    below_shown c.args.tree.now c.rows-rows.result.now c.args.numbers.now c.loop-past.choices.items c.deref.result.now (c.loop-past.past - 1) c.rows-rows.ensures.rows c.deref.ensures.value
    (λ row above within. c.loop-past.invariant.right row within (omega arith))

pub loop-past-preserved : goal.loop-past-preserved
loop-past-preserved c =
    let tree = c.args.tree.now in
    let leaf = first_leaf tree (node_at c.args.row) in
    let h = c.loop-past.invariant in
    let at = c.loop-past.past - 1 in
    let numbers = c.args.numbers.now in
    let choices = c.loop-past.choices.items in
    let inside : at < length tree = omega (arith, h.within, c.requires.leaf.within, c.loop-past-test.true) in
    let bound : at < length choices = omega (arith, inside, h.size) in
    let place = get_or c.places-places.result.now at no_place in
    let there : IsPlace tree at place = c.places-places.ensures.places at no_place (omega (arith, inside, c.places-places.ensures.size)) in
    let up : at ≤ c.args.row = omega (arith, h.within, c.loop-past-test.true) in
    let fixed : c.mended-choice.result ≡ choice 4 tree (head_on numbers) (node_at at) = over_rows tree c.rows-rows.result.now numbers at c.mended-choice.result c.rows-rows.ensures.rows c.mended-choice.ensures.choice in
    let here : (other : ℕ) → other ≡ at → c.mended-choice.result ≡ choice 4 tree (head_on numbers) (node_at other) = λ other same. rw same fixed in
    record {
      within = omega (arith, there.before, up);
      size = length-set choices at c.mended-choice.result ∙ h.size;
      right = λ other within least. written choices at other c.mended-choice.result (choice 4 tree (head_on numbers) (node_at other)) None bound (here other) (λ apart.
          elim (below_or_not other at) [
            | inl less ↦ h.others other within (none_between tree leaf c.args.row at other place c.requires.leaf up there least less)
            | inr more ↦ h.right other within (omega (arith, more, apart))
          ]);
      others = λ other within none. written choices at other c.mended-choice.result (choice 4 tree (head_on numbers) (node_at other)) None bound (here other) (λ apart. h.others other within none);
    }
