-- A table of what leads to what, range by range.
use Rattle.std.proofs.Common.{◌≡◌, ◌⊎◌, inl, inr, ℕ, ◌+◌, ◌<◌, ◌≤◌, Bool, true, List, Some, sym, ap, subst, ◌∙◌, length, get_or, take, drop, ◌++◌, arith}
use Rattle.std.specs.Prelude.{slice_get}
use Rattle.std.specs.List.{All}
use Rattle.std.proofs.lemmas.Option.{get_or_from_slice_get, slice_get-get_or, slice_get_within}
use Rattle.std.proofs.lemmas.List.Elements.{All-get_or}
use Rattle.std.proofs.Math.Seq.{take-append_seam}
use Rattle.cob_code.specs.declared.ranges.Range.{Range}
use Rattle.cob_code.specs.inner.Bounds.{is_in}
use Rattle.cob_code.specs.inner.Leading.{IsTableOf, Leads, itself, over}
use Rattle.cob_code.specs.inner.Sets.{Chain, once, leads}
use Rattle.cob_code.specs.inner.Sets as sets

-- what leads on leads on
chained : (ranges : List Range) (to between from : ℕ) → Leads ranges to between → Leads ranges between from → Leads ranges to from
chained ranges to between from itself l = l
chained ranges to between from (over at range e i m) l = over at range e i (chained ranges range.from between from m l)

-- what a table has that only has what is told
pub record OnlyRanges (ranges : List Range) (table : List (List Bool)) : Type 0 where
  pub only : (to from : ℕ) → leads table to from ≡ true → (to ≡ from) ⊎ ((at : ℕ) × (range : Range) × (slice_get ranges at ≡ Some range) × (is_in range to ≡ true) × (from ≡ range.from))

from_chain : (ranges : List Range) (table : List (List Bool)) → OnlyRanges ranges table → (to from : ℕ) → Chain table to from → Leads ranges to from
from_chain ranges table told to from (once h) =
    elim (told.only to from h) [
      | inl e ↦ (let P : ℕ → Type 0 = λ k. Leads ranges to k in subst P e itself)
      | inr r ↦ (let P : ℕ → Type 0 = λ k. Leads ranges to k in subst P (sym r.4) (over r.0 r.1 r.2 r.3 itself))
    ]
from_chain ranges table told to from (sets.over {between = m} a b) = chained ranges to m from (from_chain ranges table told to m a) (from_chain ranges table told m from b)

below_limit : (limit : ℕ) (ranges : List Range) → All (λ range. range.from < limit) ranges → (at : ℕ) (range : Range) → slice_get ranges at ≡ Some range → range.from < limit
below_limit limit ranges all at range e =
    let P : Range → Type 0 = λ r. r.from < limit in
    subst P (get_or_from_slice_get ranges at range range e) (All-get_or P ranges at range (slice_get_within ranges at range e) all)

pub is_table : (limit : ℕ) (ranges : List Range) (before after : List (List Bool)) → All (λ range. range.from < limit) ranges → OnlyRanges ranges before
    → ((k : ℕ) → k < limit → leads before k k ≡ true)
    → ((at : ℕ) (range : Range) (to : ℕ) → slice_get ranges at ≡ Some range → to < limit → is_in range to ≡ true → leads before to range.from ≡ true)
    → ((to from : ℕ) → leads before to from ≡ true → leads after to from ≡ true)
    → ((between : ℕ) → between < limit → (to from : ℕ) → leads after to between ≡ true → leads after between from ≡ true → leads after to from ≡ true)
    → ((to from : ℕ) → leads after to from ≡ true → Chain before to from) → IsTableOf limit ranges after
is_table limit ranges before after all told reflexive marked kept closed sound = record {
  sound = λ to from h. from_chain ranges before told to from (sound to from h);
  complete = full;
}
  where
    full : (to from : ℕ) → to < limit → Leads ranges to from → leads after to from ≡ true
    full to from lt itself = kept to to (reflexive to lt)
    full to from lt (over at range e i l) =
        let low = below_limit limit ranges all at range e in
        closed range.from low to from (kept to range.from (marked at range to e lt i)) (full range.from from low l)

-- a table in which so many ranges are marked
pub record AreMarked (limit : ℕ) (ranges : List Range) (n : ℕ) (table : List (List Bool)) : Type 0 where
  pub itself : (k : ℕ) → k < limit → leads table k k ≡ true
  pub marked : (at : ℕ) (range : Range) (to : ℕ) → at < n → slice_get ranges at ≡ Some range → to < limit → is_in range to ≡ true → leads table to range.from ≡ true
  pub only : OnlyRanges ranges table

pub none_marked : (limit : ℕ) (ranges : List Range) (table : List (List Bool)) → ((k : ℕ) → k < limit → leads table k k ≡ true) → ((to from : ℕ) → leads table to from ≡ true → to ≡ from)
    → AreMarked limit ranges 0 table
none_marked limit ranges table each others = record {
  itself = each;
  marked = λ at range to lt. absurd (omega (arith, lt));
  only = record { only = λ to from h. inl (others to from h) };
}

one_before : (m n : ℕ) → m < n + 1 → (m < n) ⊎ (m ≡ n)
one_before m n h = grind arith

pub one_marked : (limit : ℕ) (ranges : List Range) (n : ℕ) (d : Range) (before after : List (List Bool)) → n < length ranges
    → ((to from : ℕ) → leads before to from ≡ true → leads after to from ≡ true)
    → ((to : ℕ) → to < limit → is_in (get_or ranges n d) to ≡ true → leads after to (get_or ranges n d).from ≡ true)
    → ((to from : ℕ) → leads after to from ≡ true → (leads before to from ≡ true) ⊎ ((is_in (get_or ranges n d) to ≡ true) × (from ≡ (get_or ranges n d).from)))
    → AreMarked limit ranges n before → AreMarked limit ranges (n + 1) after
one_marked limit ranges n d before after lt kept new others marks = record {
  itself = λ k low. kept k k (marks.itself k low);
  marked = there;
  only = record { only = told };
}
  where
    there : (at : ℕ) (range : Range) (to : ℕ) → at < n + 1 → slice_get ranges at ≡ Some range → to < limit → is_in range to ≡ true → leads after to range.from ≡ true
    there at range to low e within inside =
        elim (one_before at n low) [
          | inl early ↦ kept to range.from (marks.marked at range to early e within inside)
          | inr same ↦ (
              let found : get_or ranges n d ≡ range = get_or_from_slice_get ranges n range d (ap (slice_get ranges) (sym same) ∙ e) in
              let P : Range → Type 0 = λ r. is_in r to ≡ true → leads after to r.from ≡ true in
              subst P found (new to within) inside)
        ]

    told : (to from : ℕ) → leads after to from ≡ true → (to ≡ from) ⊎ ((at : ℕ) × (range : Range) × (slice_get ranges at ≡ Some range) × (is_in range to ≡ true) × (from ≡ range.from))
    told to from h =
        elim (others to from h) [
          | inl early ↦ marks.only.only to from early
          | inr now ↦ inr (n, get_or ranges n d, slice_get-get_or ranges n d lt, now.0, now.1)
        ]

pub all_marked : (limit : ℕ) (ranges : List Range) (n : ℕ) (before after : List (List Bool)) → length ranges ≤ n → All (λ range. range.from < limit) ranges → AreMarked limit ranges n before
    → ((to from : ℕ) → leads before to from ≡ true → leads after to from ≡ true)
    → ((between : ℕ) → between < limit → (to from : ℕ) → leads after to between ≡ true → leads after between from ≡ true → leads after to from ≡ true)
    → ((to from : ℕ) → leads after to from ≡ true → Chain before to from) → IsTableOf limit ranges after
all_marked limit ranges n before after le all marks kept closed sound =
    is_table limit ranges before after all marks.only marks.itself
    (λ at range to e lt inside. marks.marked at range to (let low = slice_get_within ranges at range e in omega (arith, low, le)) e lt inside) kept closed sound

-- a list that is written back in the room of another one of its length
pub written_back : {X : Type 0} (n : ℕ) (new items : List X) → length new ≡ n → take n (new ++ drop (length new) items) ≡ new
written_back n new items e = ap (λ k. take k (new ++ drop (length new) items)) (sym e) ∙ take-append_seam new (drop (length new) items)
