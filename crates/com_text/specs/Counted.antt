-- A counted field: how many bytes it has, in decimal, a colon, and the bytes.
use Rattle.std.specs.Prelude.{◌≡◌, ℕ, ◌≤◌, List, ◌∷◌, ◌++◌, length, take, slice_range, slice_index, decimal, Bool, ◌==◌}
use Rattle.com_text.specs.declared.counted.TheConstants.{MAX_COUNTED}

abbrev pub counted_field : List ℕ → List ℕ
counted_field content = decimal (length content) ++ 58 ∷ content

-- as many bytes as a field may have at most
abbrev pub IsCountable : List ℕ → Type 0
IsCountable content = length content ≤ MAX_COUNTED

abbrev pub is_colon : ℕ → Bool
is_colon byte = byte == 58

-- more than one digit, of which the first is a zero
abbrev pub HasLeadingZero : List ℕ → Type 0
HasLeadingZero digits = (2 ≤ length digits) × (slice_index digits 0 ≡ 48)

-- the beginning of the bytes is a counted field, whose content stands from `from` up to, but not
-- with, `past`
pub record StandsAt (bytes : List ℕ) (from past : ℕ) : Type 0 where
  pub order : from ≤ past
  pub within : past ≤ length bytes
  pub countable : IsCountable (slice_range bytes from past)
  pub field : take past bytes ≡ counted_field (slice_range bytes from past)
