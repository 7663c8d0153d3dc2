-- Levels, and the sizes of items.
use Rattle.std.specs.Prelude.{ℕ, ◌+◌, Bool, true, false, ◌&&◌, ◌||◌, ◌==◌, nat_le, nat_lt, if◌then◌else◌, List, [], ◌∷◌, length, sum, map, take_while, Option, Some, None, unwrap_or}
use Rattle.cob_data.specs.Numerals.{numeral}
use Rattle.cob_lex.specs.declared.token.Token.{Token}
use Rattle.cob_data.specs.declared.tree.ItemSort.{ItemSort}
use Rattle.cob_data.specs.declared.tree.ItemSort.TheVariants.{Alphanumeric, Numeric, Group}
use Rattle.cob_data.specs.Entries.{picture_in}
use Rattle.cob_data.specs.Pictures.{size_of, sort_of}

-- 01 to 49 or 77, with or without the leading zero
abbrev pub is_level : List ℕ → Bool
is_level digits = nat_le (length digits) 2
    && ((nat_le 1 (numeral digits) && nat_le (numeral digits) 49) || numeral digits == 77)

-- the number of a level; 77 ranks as 01
abbrev pub rank_of : List ℕ → ℕ
rank_of digits = if numeral digits == 77 then 1 else numeral digits

-- the rank of the level that is the first token
abbrev pub first_rank : List Token → ℕ
first_rank [] = 0
first_rank (t ∷ ts) = rank_of t.text

-- the rank of an item
abbrev pub rank : List Token → ℕ
rank item = first_rank item

-- an item that begins a record
abbrev pub is_record : List Token → Bool
is_record item = rank item == 1

-- how many characters a picture describes, none where it is malformed
abbrev pub size_by : Option Token → ℕ
size_by None = 0
size_by (Some picture) = unwrap_or (size_of picture.text) 0

-- what an item is by its picture
abbrev pub sort_by : Option Token → ItemSort
sort_by None = Group
sort_by (Some picture) = sort_of picture.text

-- the characters that an item has by its own picture, and what it is by it
abbrev pub own_size : List Token → ℕ
own_size item = size_by (picture_in item)

-- what an item is
abbrev pub sort_of_item : List Token → ItemSort
sort_of_item item = sort_by (picture_in item)

-- an item is a group
abbrev pub is_group : ItemSort → Bool
is_group Alphanumeric = false
is_group Numeric = false
is_group Group = true

-- the items behind an item of a rank that are below it
abbrev pub below : ℕ → List (List Token) → List (List Token)
below own items = take_while (λ x. nat_lt own (rank x)) items

-- how many characters an item has: of its own picture, and of all items below it
abbrev pub length_of : List Token → List (List Token) → ℕ
length_of item others = own_size item + sum (map own_size (below (rank item) others))

-- items that stand before the first of some records, and the records
abbrev pub joined : Bool → List Token → List (List Token) × List (List (List Token))
    → List (List Token) × List (List (List Token))
joined true item others = ([], (item ∷ others.0) ∷ others.1)
joined false item others = (item ∷ others.0, others.1)

-- the items before the first record, and the records
abbrev pub split : List (List Token) → List (List Token) × List (List (List Token))
split [] = ([], [])
split (item ∷ items) = joined (is_record item) item (split items)

-- items record by record, each with the items below it
abbrev pub records_of : List (List Token) → List (List (List Token))
records_of items = (split items).1
