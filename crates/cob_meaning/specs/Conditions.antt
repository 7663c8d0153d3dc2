-- Whether a condition holds.
use Rattle.std.specs.Prelude.{ℕ, max, Bool, true, false, not, List, [], ◌∷◌, length, Option, Some, if◌then◌else◌, nat_lt}
use Rattle.std.specs.List.{list_all, list_any}
use Rattle.std.specs.Str.{all_ascii_digits}
use Rattle.com_text.specs.Name.{spaces}
use Rattle.com_cd.specs.InputArea.{zeros}
use Rattle.cob_proc.specs.declared.tree.Condition.{Condition}
use Rattle.cob_proc.specs.declared.tree.Joint.{Joint}
use Rattle.cob_proc.specs.declared.tree.Joint.TheVariants as joint
use Rattle.cob_proc.specs.declared.tree.Relation.{Relation}
use Rattle.cob_proc.specs.declared.tree.Relation.TheVariants as relation
use Rattle.cob_proc.specs.declared.tree.Simple.{Simple}
use Rattle.cob_proc.specs.declared.tree.Simple.TheVariants as simple
use Rattle.cob_meaning.specs.Layouts.{◌>>=◌, Layout}
use Rattle.cob_meaning.specs.Storage.{Storage, held_by, number_in}
use Rattle.cob_meaning.specs.Moves.{Content, a_number, a_text, a_group, all_spaces, all_zeros, content_at, from_left, item_at}

-- how two numbers compare
abbrev pub number_relation : ℕ → ℕ → Relation
number_relation m n =
    if nat_lt m n then relation.Less else (if nat_lt n m then relation.Greater else relation.Equal)

-- the first of two relations, or the second where the first is equality
abbrev pub then_relation : Relation → Relation → Relation
then_relation relation.Equal other = other
then_relation relation.Greater other = relation.Greater
then_relation relation.Less other = relation.Less

-- how texts of one length compare, in the order of bytes
abbrev pub text_relation : List ℕ → List ℕ → Relation
text_relation [] others = relation.Equal
text_relation (c ∷ cs) [] = relation.Equal
text_relation (c ∷ cs) (d ∷ ds) = then_relation (number_relation c d) (text_relation cs ds)

-- how two texts compare, the shorter one filled with spaces
abbrev pub filled_relation : List ℕ → List ℕ → Relation
filled_relation left right =
    let size = max (length left) (length right) in
    text_relation (from_left size left) (from_left size right)

-- how many characters a side has by itself; SPACES and ZEROS have none
abbrev pub own_length : Content → ℕ
own_length (a_number digits) = length digits
own_length (a_text characters) = length characters
own_length (a_group characters) = length characters
own_length all_spaces = 0
own_length all_zeros = 0

-- the characters of a side whose other side has this length
abbrev pub side_characters : ℕ → Content → List ℕ
side_characters size (a_number digits) = digits
side_characters size (a_text characters) = characters
side_characters size (a_group characters) = characters
side_characters size all_spaces = spaces size
side_characters size all_zeros = zeros size

-- how two sides compare by characters
abbrev pub character_order : Content → Content → Relation
character_order left right =
    filled_relation (side_characters (own_length right) left)
    (side_characters (own_length left) right)

-- how two sides compare by number; none if a character of one is no digit
abbrev pub number_order : List ℕ → List ℕ → Option Relation
number_order left right = do
  m ← number_in left
  n ← number_in right
  Some (number_relation m n)

-- By number if both sides are numeric items or numbers, or one is and the other is ZEROS; otherwise
-- by characters. None if a numeric item that is used as a number holds a character that is no
-- digit.
abbrev pub compared : Content → Content → Option Relation
compared (a_number left) (a_number right) = number_order left right
compared (a_number left) all_zeros = number_order left (zeros 1)
compared all_zeros (a_number right) = number_order (zeros 1) right
compared left right = Some (character_order left right)

-- whether two relations are the same
abbrev pub is_relation : Relation → Relation → Bool
is_relation relation.Equal relation.Equal = true
is_relation relation.Greater relation.Greater = true
is_relation relation.Less relation.Less = true
is_relation _ _ = false

-- an answer, turned round if NOT is written
abbrev pub with_not : Bool → Bool → Bool
with_not denied answer = if denied then not answer else answer

-- whether a simple condition holds; none if the unit stops for DATA
abbrev pub part_holds : Layout → Storage → Simple → Option Bool
part_holds layout storage (simple.Compares left denied relation right) = do
  one ← content_at layout left storage
  other ← content_at layout right storage
  found ← compared one other
  Some (with_not denied (is_relation found relation))
part_holds layout storage (simple.Numeric identifier denied) = do
  item ← item_at layout identifier storage
  Some (with_not denied (all_ascii_digits (held_by item storage)))

-- whether each part holds; each is looked at, also if one before it settles the answer
abbrev pub parts_hold : Layout → Storage → List Simple → Option (List Bool)
parts_hold layout storage [] = Some []
parts_hold layout storage (part ∷ parts) = do
  one ← part_holds layout storage part
  others ← parts_hold layout storage parts
  Some (one ∷ others)

-- what the parts give together: one of them is enough for OR, and AND needs all
abbrev pub together : Joint → List Bool → Bool
together joint.Or = list_any (λ holds. holds)
together joint.And = list_all (λ holds. holds)
together joint.Alone = list_all (λ holds. holds)

-- whether a condition holds; none if the unit stops for DATA
abbrev pub holds : Layout → Condition → Storage → Option Bool
holds layout condition storage = do
  parts ← parts_hold layout storage condition.parts
  Some (together condition.joint parts)
