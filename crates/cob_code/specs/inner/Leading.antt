-- Which paragraphs lead to which, over the ranges that they perform.
use Rattle.std.specs.Prelude.{◌≡◌, ℕ, ◌<◌, Bool, true, List, slice_get, Some}
use Rattle.cob_code.specs.declared.ranges.Range.{Range}
use Rattle.cob_code.specs.inner.Bounds.{is_in}
use Rattle.cob_code.specs.inner.Sets.{leads}

-- a paragraph leads to itself, to those in the ranges that it performs, and on from them
pub data Leads (ranges : List Range) : ℕ → ℕ → Type 0 where
  itself : {k : ℕ} → Leads ranges k k
  over : {to from : ℕ} (at : ℕ) (range : Range) → slice_get ranges at ≡ Some range → is_in range to ≡ true → Leads ranges range.from from → Leads ranges to from

-- a table of which of so many paragraphs lead to which
pub record IsTableOf (limit : ℕ) (ranges : List Range) (table : List (List Bool)) : Type 0 where
  pub sound : (to from : ℕ) → leads table to from ≡ true → Leads ranges to from
  pub complete : (to from : ℕ) → to < limit → Leads ranges to from → leads table to from ≡ true
