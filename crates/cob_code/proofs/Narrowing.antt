-- Bounds that are narrowed one after another, and flags between two places.
use Rattle.std.proofs.Common.{◌≡◌, ◌≢◌, ◌⊎◌, inl, inr, ℕ, suc, ◌+◌, ◌-◌, ◌<◌, ◌≤◌, Bool, true, false, ◌&&◌, ◌||◌, not, List, length, take, drop, get_or, refl, sym, ap, ◌∙◌, arith}
use Rattle.std.specs.Prelude.{min, slice_set}
use Rattle.std.specs.List.{list_any}
use Rattle.std.proofs.lemmas.Bool.Decides.{nat_tests}
use Rattle.std.proofs.lemmas.Grind.{get_or-set_at}
use Rattle.std.proofs.lemmas.List.{drop-take, get_or_default, get_or-set_other, take_all}
use Rattle.cob_code.specs.declared.bounds.Bounds.{Bounds}
use Rattle.cob_code.specs.declared.ranges.Range.{Range}
use Rattle.cob_code.specs.inner.Bounds.{holds, is_in, keeps, stays_in}
use Rattle.cob_code.specs.inner.Sets.{any_between}
use Rattle.cob_code.proofs.Pairs.{same_or_not}

abbrev none : Bounds
none = record { first = 0; last = 0 }

pub in_range : (range : Range) (k : ℕ) → range.first ≤ k → k ≤ range.last → is_in range k ≡ true
in_range range k low high = grind (arith, nat_tests)

stays : (a b : Bool) → a ≡ true → b ≡ (not a || b)
stays true b e = refl
stays false b e = cc

module _ (range : Range) (first bounds : List Bounds) (at : ℕ) (d b : Bounds) (lt : at < length bounds) (low : range.first ≤ at) (high : at ≤ range.last)
    (both : (to : ℕ) → holds b to ≡ (holds (get_or bounds at d) to && is_in range to))
    (behind : (from to : ℕ) → at ≤ from → keeps bounds from to ≡ keeps first from to) where
  abbrev after : List Bounds
  after = slice_set bounds at b

  elsewhere : (from to : ℕ) → from ≢ at → keeps after from to ≡ keeps bounds from to
  elsewhere from to other = ap (λ x. holds x to) (get_or-set_other bounds at from b none other)

  there : (to : ℕ) → keeps after at to ≡ (keeps first at to && stays_in at to range)
  there to =
      ap (λ x. holds x to) (get_or-set_at bounds at at b none refl lt) ∙ both to
      ∙ ap (λ x. holds x to && is_in range to) (get_or_default bounds at d none lt)
      ∙ ap (λ x. x && is_in range to) (behind at to (omega arith))
      ∙ ap (λ x. keeps first at to && x) (stays (is_in range at) (is_in range to) (in_range range at low high))

  pub next_before : ((from to : ℕ) → from < at → from < length first → keeps bounds from to ≡ (keeps first from to && stays_in from to range))
      → (from to : ℕ) → from < at + 1 → from < length first → keeps after from to ≡ (keeps first from to && stays_in from to range)
  next_before before from to near within = by (same_or_not from at)
    where
      by : (from ≡ at) ⊎ (from ≢ at) → keeps after from to ≡ (keeps first from to && stays_in from to range)
      by (inl same) =
          ap (λ n. keeps after n to) same ∙ there to ∙ ap (λ n. keeps first n to && stays_in n to range) (sym same)
      by (inr other) = elsewhere from to other ∙ before from to (let apart = other in grind arith) within

  pub next_behind : (from to : ℕ) → at + 1 ≤ from → keeps after from to ≡ keeps first from to
  next_behind from to far = elsewhere from to (λ same. absurd (omega (arith, far, same))) ∙ behind from to (omega (arith, far))

-- FLAGS

front : (flags : List Bool) (last past : ℕ) → past ≡ min (suc last) (length flags) → take (suc last) flags ≡ take past flags
front flags last past e = by (split (suc last) (length flags))
  where
    split : (m n : ℕ) → (m ≤ n) ⊎ (n ≤ m)
    split m n = grind arith

    by : (suc last ≤ length flags) ⊎ (length flags ≤ suc last) → take (suc last) flags ≡ take past flags
    by (inl le) = let same : suc last ≡ past = omega (arith, le, e) in ap (λ n. take n flags) same
    by (inr ge) = let same : length flags ≤ past = omega (arith, ge, e) in take_all (suc last) flags ge ∙ sym (take_all past flags same)

pub between : (flags : List Bool) (first last past : ℕ) → past ≡ min (suc last) (length flags) → first ≤ past → list_any (λ flag. flag) (take (past - first) (drop first flags)) ≡ any_between flags first last
between flags first last past e le =
    let whole : past ≡ first + (past - first) = omega (arith, le) in
    ap (list_any (λ flag. flag)) (sym (ap (λ l. drop first l) (front flags last past e ∙ ap (λ n. take n flags) whole) ∙ drop-take first (past - first) flags))
