-- The area of an output CD: 10 characters in three fields, and then 13 characters in two fields
-- for each of 1 to 8 destinations.
use Rattle.std.specs.Prelude.{ℕ, zero, suc, ◌+◌, ◌-◌, ◌*◌, ◌/◌, ◌<◌, ◌≤◌, ◌≡◌, Bool, ◌&&◌, nat_le, if◌then◌else◌, List, ◌∷◌, ◌++◌, length, Option, None, Some}
use Rattle.std.specs.Str.{all_ascii_digits}
use Rattle.com_text.specs.Text.{IsText}
use Rattle.com_text.specs.Name.{spaces}
use Rattle.com_text.specs.Digits.{number}
use Rattle.com_cd.specs.InputArea.{zeros}
use Rattle.com_cd.specs.Parts.{part, with_part}
use Rattle.com_cd.specs.declared.output_area.TheConstants.{MAX_OCCURRENCES}
use Rattle.com_cd.specs.declared.output_area.OutField.{OutField}
use Rattle.com_cd.specs.declared.output_area.OutField.TheVariants.{Count, Length, Status, Error, Destination}

-- where a field begins, from 0
abbrev pub out_start : OutField → ℕ
out_start Count = 0
out_start Length = 4
out_start Status = 8
out_start (Error at) = 10 + 13 * at
out_start (Destination at) = 11 + 13 * at

-- how many characters a field has
abbrev pub out_width : OutField → ℕ
out_width Count = 4
out_width Length = 4
out_width Status = 2
out_width (Error at) = 1
out_width (Destination at) = 12

-- how many occurrences an area has, as its length says it
abbrev pub occurrences_of : List ℕ → ℕ
occurrences_of area = (length area - 10) / 13

-- a field of an area of so many occurrences
abbrev pub IsFieldOf : ℕ → OutField → Type 0
IsFieldOf n Count = Unit
IsFieldOf n Length = Unit
IsFieldOf n Status = Unit
IsFieldOf n (Error at) = at < n
IsFieldOf n (Destination at) = at < n

-- a text as long as 1 to 8 occurrences make it
pub record IsOutputArea (area : List ℕ) : Type 0 where
  pub some : 1 ≤ occurrences_of area
  pub few : occurrences_of area ≤ MAX_OCCURRENCES
  pub whole : length area ≡ 10 + 13 * occurrences_of area
  pub text : IsText area

-- the characters of an area, and spaces up to the longest area's 114
abbrev pub padded_area : List ℕ → List ℕ
padded_area area = area ++ spaces (114 - length area)

-- the characters of a field
abbrev pub out_field : OutField → List ℕ → List ℕ
out_field field area = part (out_start field) (out_width field) area

-- the area with these characters in a field, and all others as before
abbrev pub set_out : OutField → List ℕ → List ℕ → List ℕ
set_out field area value = with_part (out_start field) (out_width field) area value

-- spaces in the destinations, zeros elsewhere
abbrev pub opening_output : ℕ → List ℕ
opening_output zero = zeros 10
opening_output (suc n) = opening_output n ++ 48 ∷ spaces 12

-- the field writes a number from 1 to the occurrences of the area
abbrev pub is_destination_count : List ℕ → List ℕ → Bool
is_destination_count area field =
    all_ascii_digits field
    && (nat_le 1 (number field) && nat_le (number field) (occurrences_of area))

-- the number of DESTINATION COUNT, where it is 1 or more and the area has so many occurrences
abbrev pub destination_count : List ℕ → Option ℕ
destination_count area =
    if is_destination_count area (out_field Count area) then Some (number (out_field Count area))
    else None
