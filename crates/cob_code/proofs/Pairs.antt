-- One more pair in a table of what leads to what.
use Rattle.std.proofs.Common.{◌≡◌, ◌≢◌, ◌⊎◌, inl, inr, ℕ, ◌<◌, Bool, true, false, List, [], length, refl, sym, ap, ◌∙◌, arith}
use Rattle.std.specs.Prelude.{slice_set}
use Rattle.std.proofs.lemmas.List.{get_or-set_other}
use Rattle.std.proofs.lemmas.Grind.{get_or-set_at}
use Rattle.cob_code.specs.inner.Sets.{has, leads, set_at}

pub same_or_not : (m n : ℕ) → (m ≡ n) ⊎ (m ≢ n)
same_or_not m n = grind arith

-- a set with one more number
set_keeps : (set : List Bool) (at k : ℕ) → at < length set → has set k ≡ true → has (slice_set set at true) k ≡ true
set_keeps set at k lt h = by (same_or_not k at)
  where
    by : (k ≡ at) ⊎ (k ≢ at) → has (slice_set set at true) k ≡ true
    by (inl same) = get_or-set_at set at k true false same lt
    by (inr other) = get_or-set_other set at k true false other ∙ h

set_only : (set : List Bool) (at k : ℕ) → has (slice_set set at true) k ≡ true → (has set k ≡ true) ⊎ (k ≡ at)
set_only set at k h = by (same_or_not k at)
  where
    by : (k ≡ at) ⊎ (k ≢ at) → (has set k ≡ true) ⊎ (k ≡ at)
    by (inl same) = inr same
    by (inr other) = inl (sym (get_or-set_other set at k true false other) ∙ h)

module _ (table : List (List Bool)) (at from : ℕ) (lt : at < length table) (within : from < length (set_at table at)) where
  abbrev more : List (List Bool)
  more = slice_set table at (slice_set (set_at table at) from true)

  here : (to : ℕ) → to ≡ at → set_at more to ≡ slice_set (set_at table at) from true
  here to same = get_or-set_at table at to (slice_set (set_at table at) from true) [] same lt

  elsewhere : (to : ℕ) → to ≢ at → set_at more to ≡ set_at table to
  elsewhere to other = get_or-set_other table at to (slice_set (set_at table at) from true) [] other

  pub pair_keeps : (to k : ℕ) → leads table to k ≡ true → leads more to k ≡ true
  pair_keeps to k h = by (same_or_not to at)
    where
      by : (to ≡ at) ⊎ (to ≢ at) → leads more to k ≡ true
      by (inl same) =
          ap (λ set. has set k) (here to same)
          ∙ set_keeps (set_at table at) from k within (ap (λ n. leads table n k) (sym same) ∙ h)
      by (inr other) = ap (λ set. has set k) (elsewhere to other) ∙ h

  pub pair_there : leads more at from ≡ true
  pair_there = ap (λ set. has set from) (here at refl) ∙ get_or-set_at (set_at table at) from from true false refl within

  pub pair_only : (to k : ℕ) → leads more to k ≡ true → (leads table to k ≡ true) ⊎ ((to ≡ at) × (k ≡ from))
  pair_only to k h = by (same_or_not to at)
    where
      by : (to ≡ at) ⊎ (to ≢ at) → (leads table to k ≡ true) ⊎ ((to ≡ at) × (k ≡ from))
      by (inl same) =
          elim (set_only (set_at table at) from k (sym (ap (λ set. has set k) (here to same)) ∙ h)) [
            | inl there ↦ inl (ap (λ n. leads table n k) same ∙ there)
            | inr equal ↦ inr (same, equal)
          ]
      by (inr other) = inl (sym (ap (λ set. has set k) (elsewhere to other)) ∙ h)
