-- The storage of a run: the characters of each area. An item is a slice of its area.
use Rattle.std.specs.Prelude.{ℕ, List, [], length, Option, Some, None, if◌then◌else◌, slice_index_or, slice_set}
use Rattle.std.specs.Str.{all_ascii_digits}
use Rattle.com_text.specs.Digits.{number}
use Rattle.com_cd.specs.Parts.{part, with_part}
use Rattle.cob_data.specs.declared.tree.ItemPlace.{ItemPlace}

-- the characters of each area
abbrev pub Storage : Type 0
Storage = List (List ℕ)

-- the characters of an area
abbrev pub area_in : Storage → ℕ → List ℕ
area_in storage area = slice_index_or storage area []

-- the storage with other characters in an area
abbrev pub with_area : ℕ → List ℕ → Storage → Storage
with_area area characters storage = slice_set storage area characters

-- the characters of an item
abbrev pub held_by : ItemPlace → Storage → List ℕ
held_by item storage = part item.start item.length (area_in storage item.area)

-- the storage with these characters from the left end of an item on, and all others as before
abbrev pub with_prefix : ItemPlace → List ℕ → Storage → Storage
with_prefix item characters storage =
    with_area item.area
    (with_part item.start (length characters) (area_in storage item.area) characters) storage

-- the number that digits write; none if another character is among them
abbrev pub number_in : List ℕ → Option ℕ
number_in characters = if all_ascii_digits characters then Some (number characters) else None

-- the number that an item holds
abbrev pub number_held : ItemPlace → Storage → Option ℕ
number_held item storage = number_in (held_by item storage)
