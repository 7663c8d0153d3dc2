-- What the names of a program stand for, and where its items are.
use Rattle.std.specs.Prelude.{ℕ, ◌+◌, ◌-◌, ◌*◌, ◌&&◌, nat_le, List, find, Option, Some, None, if◌then◌else◌, bytes_eq, option_and_then, option_map}
use Rattle.com_cd.specs.OutputArea.{out_start}
use Rattle.com_cd.specs.declared.output_area.OutField.TheVariants as out
use Rattle.cob_forms.specs.declared.written.Name.{Name}
use Rattle.cob_data.specs.declared.tree.ItemPlace.{ItemPlace}
use Rattle.cob_data.specs.Layout.{Declared, Referent, data_at, input_cd, output_cd}

-- one after another, as far as there are any
infixl 10 ◌>>=◌
abbrev pub ◌>>=◌ : {A B : Type 0} → Option A → (A → Option B) → Option B
o >>= f = option_and_then f o

-- The names of a program with what they stand for, in the order of the text; its areas as they
-- begin; and the area of the CD that has INITIAL.
pub record Layout : Type 0 where
  pub names : List Declared
  pub opening : List (List ℕ)
  pub initial : Option ℕ

-- what a name stands for; none if it is not declared
abbrev pub referent : Layout → Name → Option Referent
referent layout name =
    option_map (λ entry. entry.1) (find (λ entry. bytes_eq entry.0 name.text) layout.names)

-- the place of data, without a subscript
abbrev pub place_of : Referent → Option ItemPlace
place_of (data_at place occurs) = Some place
place_of (input_cd area) = None
place_of (output_cd area occurrences) = None

-- the area of a CD
abbrev pub area_of : Referent → Option ℕ
area_of (data_at place occurs) = None
area_of (input_cd area) = Some area
area_of (output_cd area occurrences) = Some area

-- the item that a name stands for, without a subscript
abbrev pub item_of : Layout → Name → Option ItemPlace
item_of layout name = referent layout name >>= place_of

-- the area of the CD that a name stands for
abbrev pub cd_of : Layout → Name → Option ℕ
cd_of layout name = referent layout name >>= area_of

-- how far each occurrence in a table is from the one before
abbrev pub step : ℕ
step = out_start (out.Error 1) - out_start (out.Error 0)

-- an occurrence of an item, numbered from 1; none if the table has no such number
abbrev pub occurrence : ℕ → ItemPlace → ℕ → Option ItemPlace
occurrence occurs place n =
    if nat_le 1 n
    && nat_le n occurs then Some (record place { start = place.start + step * (n - 1) }) else None
