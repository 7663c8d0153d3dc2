-- What an operand is, and what statements put into items.
use Rattle.std.specs.Prelude.{ℕ, ◌+◌, ◌-◌, List, [], ◌∷◌, ◌++◌, length, take, drop, Option, Some, None, if◌then◌else◌}
use Rattle.std.specs.Str.{all_ascii_digits}
use Rattle.com_text.specs.Name.{spaces}
use Rattle.com_text.specs.Digits.{in_digits, number}
use Rattle.com_cd.specs.InputArea.{zeros}
use Rattle.cob_proc.specs.declared.tree.Addend.{Addend}
use Rattle.cob_proc.specs.declared.tree.Addend.TheVariants as addend
use Rattle.cob_proc.specs.declared.tree.Identifier.{Identifier}
use Rattle.cob_proc.specs.declared.tree.Operand.{Operand}
use Rattle.cob_proc.specs.declared.tree.Operand.TheVariants as operand
use Rattle.cob_proc.specs.declared.tree.Subscript.{Subscript}
use Rattle.cob_proc.specs.declared.tree.Subscript.TheVariants as subscript
use Rattle.cob_data.specs.declared.tree.ItemPlace.{ItemPlace}
use Rattle.cob_data.specs.declared.tree.ItemSort.{ItemSort}
use Rattle.cob_data.specs.declared.tree.ItemSort.TheVariants.{Alphanumeric, Numeric, Group}
use Rattle.cob_data.specs.Layout.{Referent, data_at, input_cd, output_cd}
use Rattle.cob_meaning.specs.Layouts.{◌>>=◌, Layout, item_of, occurrence, referent}
use Rattle.cob_meaning.specs.Storage.{Storage, held_by, with_prefix, number_in, number_held}

-- A function of this file gives none if the unit stops for DATA. So it does at a name that is not
-- declared, and at a subscript that is missing or not allowed, which no program has.

-- the number of a subscript
abbrev pub subscript_number : Layout → Subscript → Storage → Option ℕ
subscript_number layout (subscript.Number position n) storage = Some (number n.digits)
subscript_number layout (subscript.Item position name) storage = do
  item ← item_of layout name
  number_held item storage

-- the item at a place, by how often it occurs in a table and by its subscript
abbrev pub subscripted_item : Layout → Storage → ItemPlace → Option ℕ → Option Subscript
    → Option ItemPlace
subscripted_item layout storage place None None = Some place
subscripted_item layout storage place (Some occurs) (Some s) =
    subscript_number layout s storage >>= occurrence occurs place
subscripted_item layout storage place _ _ = None

-- the item that a name stands for, with a subscript or without one
abbrev pub item_by : Layout → Storage → Option Subscript → Referent → Option ItemPlace
item_by layout storage subscript (data_at place occurs) =
    subscripted_item layout storage place occurs subscript
item_by layout storage subscript (input_cd area) = None
item_by layout storage subscript (output_cd area occurrences) = None

-- the item of an identifier
abbrev pub item_at : Layout → Identifier → Storage → Option ItemPlace
item_at layout identifier storage =
    referent layout identifier.name >>= item_by layout storage identifier.subscript

-- what is moved or compared
pub data Content : Type 0 where
  -- the characters of a numeric item, or a number's digits as they are written
  a_number : List ℕ → Content
  -- those of an alphanumeric item or a literal
  a_text : List ℕ → Content
  -- those of a group
  a_group : List ℕ → Content
  all_spaces all_zeros : Content

-- what an item of this sort gives
abbrev pub content_of : ItemSort → List ℕ → Content
content_of Alphanumeric held = a_text held
content_of Numeric held = a_number held
content_of Group held = a_group held

-- what an operand gives
abbrev pub content_at : Layout → Operand → Storage → Option Content
content_at layout (operand.Item identifier) storage = do
  item ← item_at layout identifier storage
  Some (content_of item.sort (held_by item storage))
content_at layout (operand.Literal literal) storage = Some (a_text literal.characters)
content_at layout (operand.Number n) storage = Some (a_number n.digits)
content_at layout (operand.Spaces position) storage = Some all_spaces
content_at layout (operand.Zeros position) storage = Some all_zeros

-- characters from the left, filled with spaces and cut on the right
abbrev pub from_left : ℕ → List ℕ → List ℕ
from_left size characters = take size (characters ++ spaces size)

-- digits from the right, filled with zeros and cut on the left
abbrev pub from_right : ℕ → List ℕ → List ℕ
from_right size digits = drop (length digits) (zeros size ++ digits)

-- what an item of a sort and a length holds after a MOVE of this to it
abbrev pub moved : Content → ItemSort → ℕ → Option (List ℕ)
moved (a_number digits) Numeric size = do
  n ← number_in digits
  Some (in_digits n size)
moved (a_number digits) _ size = Some (from_left size digits)
moved (a_text characters) Numeric size =
    if all_ascii_digits characters then Some (from_right size characters) else None
moved (a_text characters) _ size = Some (from_left size characters)
moved (a_group characters) _ size = Some (from_left size characters)
moved all_spaces _ size = Some (spaces size)
moved all_zeros _ size = Some (zeros size)

-- the storage after a MOVE of this to the targets, one after another
abbrev pub filled : Layout → Content → List Identifier → Storage → Option Storage
filled layout content [] storage = Some storage
filled layout content (target ∷ targets) storage = do
  item ← item_at layout target storage
  characters ← moved content item.sort item.length
  filled layout content targets (with_prefix item characters storage)

-- MOVE reads its source once, before the first target is filled
abbrev pub move : Layout → Operand → List Identifier → Storage → Option Storage
move layout source targets storage = do
  content ← content_at layout source storage
  filled layout content targets storage

-- the number of what is added, subtracted or counted
abbrev pub addend_number : Layout → Addend → Storage → Option ℕ
addend_number layout (addend.Item identifier) storage = do
  item ← item_at layout identifier storage
  number_held item storage
addend_number layout (addend.Number n) storage = Some (number n.digits)

-- the target holds the low-order digits of what its number and another give together
abbrev pub combined : (ℕ → ℕ → ℕ) → Layout → Addend → Identifier → Storage → Option Storage
combined together layout other target storage = do
  n ← addend_number layout other storage
  item ← item_at layout target storage
  m ← number_held item storage
  Some (with_prefix item (in_digits (together m n) item.length) storage)

-- ADD
abbrev pub add : Layout → Addend → Identifier → Storage → Option Storage
add = combined (λ m n. m + n)

-- SUBTRACT, whose difference is stored without a sign
abbrev pub subtract : Layout → Addend → Identifier → Storage → Option Storage
subtract = combined (λ m n. (m - n) + (n - m))
