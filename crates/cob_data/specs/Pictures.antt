-- Pictures: how many characters they describe, and of which sort.
use Rattle.std.specs.Prelude.{ℕ, zero, suc, ◌+◌, Bool, false, ◌&&◌, ◌==◌, nat_le, if◌then◌else◌, List, [], ◌∷◌, length, drop, take_while, Option, Some, None, option_map}
use Rattle.com_text.specs.Name.{is_digit}
use Rattle.com_text.specs.Digits.{number}
use Rattle.cob_data.specs.declared.tree.ItemSort.{ItemSort}
use Rattle.cob_data.specs.declared.tree.ItemSort.TheVariants.{Alphanumeric, Numeric, Group}

-- a text begins with a byte
abbrev pub begins_with : ℕ → List ℕ → Bool
begins_with byte [] = false
begins_with byte (b ∷ bytes) = b == byte

-- the digits of a count, and whether the parenthesis that closes it is behind them
abbrev pub is_count : List ℕ → List ℕ → Bool
is_count digits inside = nat_le 1 (length digits) && begins_with 41 (drop (length digits) inside)

-- A unit stands for one character, or for as many as its count in parentheses says. By what stands
-- behind the unit: how many, and how many bytes the count has.
abbrev pub unit_by : List ℕ → ℕ × ℕ
unit_by [] = (1, 0)
unit_by (b ∷ inside) =
    if b == 40 && is_count (take_while is_digit inside) inside
    then (number (take_while is_digit inside), 2 + length (take_while is_digit inside))
    else (1, 0)

-- how many characters a run of one unit describes; some bytes at its front belong to the count
-- before
abbrev pub characters : ℕ → ℕ → List ℕ → Option ℕ
characters unit counted [] = Some 0
characters unit (suc counted) (b ∷ bytes) = characters unit counted bytes
characters unit zero (b ∷ bytes) =
    if b == unit then option_map (λ n. (unit_by bytes).0 + n) (characters unit (unit_by bytes).1 bytes) else None

-- the most characters of an item of a sort
abbrev pub most : ItemSort → ℕ
most Alphanumeric = 2000
most Numeric = 18
most Group = 0

-- the character of a picture of a sort
abbrev pub unit_of : ItemSort → ℕ
unit_of Alphanumeric = 88
unit_of Numeric = 57
unit_of Group = 0

-- a number of characters that an item of a sort may have
abbrev pub within : ItemSort → Option ℕ → Option ℕ
within sort None = None
within sort (Some n) = if nat_le 1 n && nat_le n (most sort) then Some n else None

-- how many characters a picture of X or of 9 describes, where it is well formed
abbrev pub size_as : ItemSort → List ℕ → Option ℕ
size_as sort picture = within sort (characters (unit_of sort) 0 picture)

-- what an item is by the characters of its picture
abbrev pub sort_of : List ℕ → ItemSort
sort_of picture = if begins_with 57 picture then Numeric else Alphanumeric

-- how many characters a picture describes, where it is well formed
abbrev pub size_of : List ℕ → Option ℕ
size_of picture = size_as (sort_of picture) picture
