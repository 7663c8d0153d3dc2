-- Sets of numbers, by whether each is in them, and tables of such sets.
use Rattle.std.specs.Prelude.{◌≡◌, ℕ, suc, Bool, true, false, List, [], length, slice_index_or, drop, take}
use Rattle.std.specs.List.{All, list_any}

-- whether a number is in a set
abbrev pub has : List Bool → ℕ → Bool
has set number = slice_index_or set number false

-- the set of a number in a table
abbrev pub set_at : List (List Bool) → ℕ → List Bool
set_at table number = slice_index_or table number []

-- whether a number from a first to a last one is in a set
abbrev pub any_between : List Bool → ℕ → ℕ → Bool
any_between set first last = list_any (λ flag. flag) (drop first (take (suc last) set))

-- whether a number is in the set of another one
abbrev pub leads : List (List Bool) → ℕ → ℕ → Bool
leads table to from = has (set_at table to) from

-- a table of as many sets as each of them has places
abbrev pub IsSquare : ℕ → List (List Bool) → Type 0
IsSquare limit table = (length table ≡ limit) × All (λ set. length set ≡ limit) table

-- what leads over others to a number
pub data Chain (table : List (List Bool)) : ℕ → ℕ → Type 0 where
  once : {to from : ℕ} → leads table to from ≡ true → Chain table to from
  over : {to between from : ℕ} → Chain table to between → Chain table between from → Chain table to from
