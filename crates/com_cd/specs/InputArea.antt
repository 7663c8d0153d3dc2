-- The area of an input CD: 87 characters, in eleven fields one after another.
use Rattle.std.specs.Prelude.{◌≡◌, ℕ, List, ◌++◌, length, replicate}
use Rattle.com_text.specs.Text.{IsText}
use Rattle.com_text.specs.Name.{spaces}
use Rattle.com_cd.specs.Parts.{part, with_part}
use Rattle.com_cd.specs.declared.input_area.InField.{InField}
use Rattle.com_cd.specs.declared.input_area.InField.TheVariants.{Queue, Sub1, Sub2, Sub3, Date, Time, Source, Length, EndKey, Status, Count}

-- where a field begins, from 0
abbrev pub start_of : InField → ℕ
start_of Queue = 0
start_of Sub1 = 12
start_of Sub2 = 24
start_of Sub3 = 36
start_of Date = 48
start_of Time = 54
start_of Source = 62
start_of Length = 74
start_of EndKey = 78
start_of Status = 79
start_of Count = 81

-- how many characters a field has
abbrev pub width_of : InField → ℕ
width_of Queue = 12
width_of Sub1 = 12
width_of Sub2 = 12
width_of Sub3 = 12
width_of Date = 6
width_of Time = 8
width_of Source = 12
width_of Length = 4
width_of EndKey = 1
width_of Status = 2
width_of Count = 6

-- 87 characters of a text
pub record IsInputArea (bytes : List ℕ) : Type 0 where
  pub length : length bytes ≡ 87
  pub text : IsText bytes

-- the characters of a field
abbrev pub in_field : InField → List ℕ → List ℕ
in_field field area = part (start_of field) (width_of field) area

-- the area with these characters in a field, and all others as before
abbrev pub set_in : InField → List ℕ → List ℕ → List ℕ
set_in field area value = with_part (start_of field) (width_of field) area value

-- the digit 0, `n` times
abbrev pub zeros : ℕ → List ℕ
zeros n = replicate n 48

-- spaces in the names and the source, zeros elsewhere
abbrev pub opening_area : List ℕ
opening_area = ((spaces 48 ++ zeros 14) ++ spaces 12) ++ zeros 13
