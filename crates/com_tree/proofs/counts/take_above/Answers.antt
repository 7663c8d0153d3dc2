use Rattle.std.proofs.Common.{inl, inr, ◌≡◌, ℕ, suc, ◌<◌, ◌≤◌, ◌+◌, ◌-◌, nat_lt, Bool, true, false, List, length, get_or, set, refl, sym, ap, ◌∙◌, arith}
use Rattle.std.specs.Prelude.{◌==◌, if◌then◌else◌}
use Rattle.std.proofs.lemmas.Bool.{cases_Bool}
use Rattle.std.proofs.lemmas.Bool.Decides.{nat_tests}
use Rattle.std.proofs.lemmas.List.{length-set, get_or-set_same, get_or-set_other}
use Rattle.com_tree.specs.declared.tree.TreeRow.{TreeRow}
use Rattle.com_tree.specs.declared.index.Place.{Place}
use Rattle.com_tree.specs.UnderNodes.{is_over}
use Rattle.com_tree.specs.inner.Index.{IsPlace}
use Rattle.com_tree.proofs.OverLeaf.{none_after, none_between, over_at, written, same_read, below_or_not}
use Rattle.com_tree.proofs.counts.take_above.Goals.{After-index_mut}
use Rattle.com_tree.proofs.counts.take_above.Goals as goal

abbrev no_place : Place
no_place = record { first = 0; past = 0; below = 0; apart = 0 }

-- the number of a node before one less was counted
abbrev counted : List TreeRow → ℕ → List ℕ → ℕ → ℕ
counted tree leaf less other = if is_over tree leaf other then suc (get_or less other 0) else get_or less other 0

abbrev with_one : Bool → ℕ → ℕ
with_one over less = if over then suc less else less

one_less : (over reached : Bool) (old now one : ℕ) → over ≡ reached → now ≡ old → one ≡ (if reached then 1 else 0) → (over ≡ true → 1 ≤ old) → (one ≤ now) × (old ≡ with_one over (now - one))
one_less over true old now one same is more some =
    let less : one ≡ 1 = more in
    let least : 1 ≤ old = some same in
    (omega (arith, is, less, least), rw same (omega (arith, is, less, least)))
one_less over false old now one same is more some =
    let none : one ≡ 0 = more in
    (omega (arith, none), rw same (omega (arith, is, none)))

not_counted : (tree : List TreeRow) (leaf : ℕ) (old : List ℕ) (other : ℕ) → is_over tree leaf other ≡ false → get_or old other 0 ≡ counted tree leaf old other
not_counted tree leaf old other none = rw none refl

-- what was counted, by what is read after a write
counted_by : (over : Bool) (old : ℕ) (xs : List ℕ) (at other new : ℕ) → at < length xs → (other ≡ at → old ≡ with_one over new) → ((other ≡ at → ⊥) → old ≡ with_one over (get_or xs other 0)) → old ≡ with_one over (get_or (set xs at new) other 0)
counted_by over old xs at other new within here there = elim (cases_Bool (other == at)) [
  | inl same ↦
      let at_it : other ≡ at = grind (arith, nat_tests, same) in
      here at_it ∙ ap (with_one over) (sym (rw at_it (get_or-set_same xs at new 0 within)))
  | inr other_one ↦
      let apart : other ≡ at → ⊥ = λ is. grind (arith, nat_tests, other_one, is) in
      there apart ∙ ap (with_one over) (sym (get_or-set_other xs at other new 0 apart))
]

pub loop-past-init : goal.loop-past-init
loop-past-init c =
    let old = c.args.numbers.now.items in
    record {
      within = omega arith;
      size = refl;
      done = λ other within past. not_counted c.args.tree.now c.args.leaf old other (none_after c.args.tree.now c.args.leaf c.args.row other c.requires.leaf past);
      left = λ other less. refl;
    }

-- the number that is read is the old one, and what is left of it
read : (c : After-index_mut) → let at = c.loop-past.past - 1 in let old = c.args.numbers.now.items in
    (at < length c.loop-past.numbers.items) × (at ≤ c.args.row) × IsPlace c.args.tree.now at (get_or c.places-places.result.now at no_place)
    × (c.reaches.result ≤ c.index_mut.result.now) × (get_or old at 0 ≡ with_one (is_over c.args.tree.now c.args.leaf at) (c.index_mut.result.now - c.reaches.result))
read c =
    let tree = c.args.tree.now in
    let leaf = c.args.leaf in
    let h = c.loop-past.invariant in
    let at = c.loop-past.past - 1 in
    let old = c.args.numbers.now.items in
    let place = get_or c.places-places.result.now at no_place in
    let bound : at < length c.loop-past.numbers.items = omega (arith, h.within, h.size, c.requires.size, c.requires.leaf.within, c.loop-past-test.true) in
    let there : IsPlace tree at place = c.places-places.ensures.places at no_place (omega (arith, bound, h.size, c.requires.size, c.places-places.ensures.size)) in
    let up : at ≤ c.args.row = omega (arith, h.within, c.loop-past-test.true) in
    let is : c.index_mut.result.now ≡ get_or old at 0 = c.index_mut.ensures.value ∙ (same_read c.loop-past.numbers.items at c.index_mut.result.now 0 bound ∙ h.left at (omega (arith, c.loop-past-test.true))) in
    let less = one_less (is_over tree leaf at) (nat_lt leaf place.past) (get_or old at 0) c.index_mut.result.now c.reaches.result (over_at tree leaf c.args.row at place c.requires.leaf up there) is c.reaches.ensures
    (c.requires.some at (omega (arith, bound, h.size, c.requires.size))) in
    (bound, up, there, less.0, less.1)

pub overflow_sub-index_mut : goal.overflow_sub-index_mut
overflow_sub-index_mut c = (read c.before).3

pub loop-past-preserved : goal.loop-past-preserved
loop-past-preserved c =
    let tree = c.args.tree.now in
    let leaf = c.args.leaf in
    let h = c.loop-past.invariant in
    let at = c.loop-past.past - 1 in
    let old = c.args.numbers.now.items in
    let numbers = c.loop-past.numbers.items in
    let is = read c.before.before.before in
    let place = get_or c.places-places.result.now at no_place in
    let new = c.index_mut.result.now - c.reaches.result in
    let over = is_over tree leaf in
    record {
      within = omega (arith, is.2.before, is.1);
      size = length-set numbers at new ∙ h.size;
      done = λ other within least. counted_by (over other) (get_or old other 0) numbers at other new is.0 (λ same. rw same is.4) (λ apart.
          elim (below_or_not other at) [
            | inl less ↦
                let none : over other ≡ false = none_between tree leaf c.args.row at other place c.requires.leaf is.1 is.2 least less in
                rw none (sym (h.left other (omega (arith, less))))
            | inr more ↦ h.done other within (omega (arith, more, apart))
          ]);
      left = λ other less. written numbers at other new (get_or old other 0) 0 is.0 (λ same. absurd (omega (arith, less, same, is.2.before))) (λ apart. h.left other (omega (arith, less, is.2.before)));
    }
