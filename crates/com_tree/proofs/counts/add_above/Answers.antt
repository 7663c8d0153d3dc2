use Rattle.std.proofs.Common.{inl, inr, ◌≡◌, ℕ, suc, ◌<◌, ◌≤◌, ◌+◌, ◌-◌, nat_lt, Bool, true, false, List, length, get_or, refl, sym, ap, ◌∙◌, arith}
use Rattle.std.specs.Prelude.{if◌then◌else◌}
use Rattle.std.proofs.lemmas.Bool.{cases_Bool}
use Rattle.std.proofs.lemmas.List.{length-set}
use Rattle.com_tree.specs.declared.tree.TreeRow.{TreeRow}
use Rattle.com_tree.specs.declared.index.Place.{Place}
use Rattle.com_tree.specs.UnderNodes.{is_over}
use Rattle.com_tree.specs.inner.Index.{IsPlace}
use Rattle.com_tree.proofs.OverLeaf.{none_after, none_between, over_at, written, same_read, below_or_not}
use Rattle.com_tree.proofs.counts.add_above.Goals.{After-index_mut}
use Rattle.com_tree.proofs.counts.add_above.Goals as goal

abbrev no_place : Place
no_place = record { first = 0; past = 0; below = 0; apart = 0 }

-- the number of a node when one more is counted
abbrev counted : List TreeRow → ℕ → List ℕ → ℕ → ℕ
counted tree leaf old other = if is_over tree leaf other then suc (get_or old other 0) else get_or old other 0

one_more : (over reached : Bool) (old now one : ℕ) → over ≡ reached → now ≡ old → one ≡ (if reached then 1 else 0) → now + one ≡ (if over then suc old else old)
one_more over true old now one same is more =
    let plus : one ≡ 1 = more in
    rw same (omega (arith, is, plus))
one_more over false old now one same is more =
    let none : one ≡ 0 = more in
    rw same (omega (arith, is, none))

not_counted : (tree : List TreeRow) (leaf : ℕ) (old : List ℕ) (other : ℕ) → is_over tree leaf other ≡ false → get_or old other 0 ≡ counted tree leaf old other
not_counted tree leaf old other none = rw none refl

one_at_most : (reached : Bool) (one : ℕ) → one ≡ (if reached then 1 else 0) → one ≤ 1
one_at_most true one is = let n : one ≡ 1 = is in omega (arith, n)
one_at_most false one is = let n : one ≡ 0 = is in omega (arith, n)

pub loop-past-init : goal.loop-past-init
loop-past-init c =
    let old = c.args.numbers.now.items in
    record {
      within = omega arith;
      size = refl;
      done = λ other within past. not_counted c.args.tree.now c.args.leaf old other (none_after c.args.tree.now c.args.leaf c.args.row other c.requires.leaf past);
      left = λ other less. refl;
    }

-- the number that is read is the old one
read : (c : After-index_mut) → (c.loop-past.past - 1 < length c.loop-past.numbers.items) × (c.index_mut.result.now ≡ get_or c.args.numbers.now.items (c.loop-past.past - 1) 0)
read c =
    let h = c.loop-past.invariant in
    let at = c.loop-past.past - 1 in
    let bound : at < length c.loop-past.numbers.items = omega (arith, h.within, h.size, c.requires.size, c.requires.leaf.within, c.loop-past-test.true) in
    (bound, c.index_mut.ensures.value ∙ (same_read c.loop-past.numbers.items at c.index_mut.result.now 0 bound ∙ h.left at (omega (arith, c.loop-past-test.true))))

pub overflow_add-index_mut : goal.overflow_add-index_mut
overflow_add-index_mut c =
    let at = c.loop-past.past - 1 in
    let is = read c.before in
    let room = c.requires.room at 0 (omega (arith, is.0, c.loop-past.invariant.size)) in
    omega (arith, is.1, room, one_at_most (nat_lt c.args.leaf (get_or c.places-places.result.now at no_place).past) c.reaches.result c.reaches.ensures)

pub loop-past-preserved : goal.loop-past-preserved
loop-past-preserved c =
    let tree = c.args.tree.now in
    let leaf = c.args.leaf in
    let h = c.loop-past.invariant in
    let at = c.loop-past.past - 1 in
    let old = c.args.numbers.now.items in
    let numbers = c.loop-past.numbers.items in
    let is = read c.before.before.before in
    let place = get_or c.places-places.result.now at no_place in
    let there : IsPlace tree at place = c.places-places.ensures.places at no_place (omega (arith, is.0, h.size, c.requires.size, c.places-places.ensures.size)) in
    let up : at ≤ c.args.row = omega (arith, h.within, c.loop-past-test.true) in
    let new = c.index_mut.result.now + c.reaches.result in
    let value : new ≡ counted tree leaf old at =
    one_more (is_over tree leaf at) (nat_lt leaf place.past) (get_or old at 0) c.index_mut.result.now c.reaches.result (over_at tree leaf c.args.row at place c.requires.leaf up there) is.1 c.reaches.ensures in
    let here : (other : ℕ) → other ≡ at → new ≡ counted tree leaf old other = λ other same. rw same value in
    record {
      within = omega (arith, there.before, up);
      size = length-set numbers at new ∙ h.size;
      done = λ other within least. written numbers at other new (counted tree leaf old other) 0 is.0 (here other) (λ apart.
          elim (below_or_not other at) [
            | inl less ↦ h.left other (omega (arith, less)) ∙ not_counted tree leaf old other (none_between tree leaf c.args.row at other place c.requires.leaf up there least less)
            | inr more ↦ h.done other within (omega (arith, more, apart))
          ]);
      left = λ other less. written numbers at other new (get_or old other 0) 0 is.0 (λ same. absurd (omega (arith, less, same, there.before))) (λ apart. h.left other (omega (arith, less, there.before)));
    }
