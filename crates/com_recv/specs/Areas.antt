-- What RECEIVE and ACCEPT MESSAGE COUNT write into an area.
use Rattle.std.specs.Prelude.{ℕ, min, List, [], ◌∷◌, length, unwrap_or, slice_get, codes}
use Rattle.com_text.specs.Name.{field_of}
use Rattle.com_text.specs.Digits.{in_digits}
use Rattle.com_msg.specs.declared.message.Message.{Message}
use Rattle.com_msg.specs.declared.rest.Portion.{Portion}
use Rattle.com_cd.specs.InputArea.{set_in}
use Rattle.com_cd.specs.Designation.{with_path}
use Rattle.com_cd.specs.Status.{with_input_status}
use Rattle.com_cd.specs.declared.status.Status.TheVariants.{S00}
use Rattle.com_cd.specs.declared.input_area.InField.TheVariants as field
use Rattle.com_tree.specs.declared.tree.TreeRow.{TreeRow}
use Rattle.com_tree.specs.Places.{leaf_paths}
use Rattle.com_recv.specs.declared.areas.TheConstants.{MAX_COUNT}

-- the area with the date, the time and the source of a message
abbrev pub with_origin : Message → List ℕ → List ℕ
with_origin message area =
    let dated = set_in field.Date area message.stamp.date in
    let timed = set_in field.Time dated message.stamp.time in
    set_in field.Source timed (field_of message.source)

-- the area with the length and the end key of a portion, and the status key 00
abbrev pub with_portion : List ℕ → List ℕ → List ℕ → List ℕ
with_portion digits end_key area =
    let sized = set_in field.Length area digits in
    with_input_status S00 (set_in field.EndKey sized end_key)

-- the area that tells of a portion of a message from the leaf with this path; MESSAGE COUNT stays
abbrev pub portion_area : List (List ℕ) → Message → Portion → List ℕ → List ℕ
portion_area path message portion area =
    with_portion (in_digits (length portion.text) 4) (portion.end_key ∷ [])
    (with_origin message (with_path path area))

-- the path of a leaf
abbrev pub path_of_leaf : List TreeRow → ℕ → List (List ℕ)
path_of_leaf tree leaf = unwrap_or (slice_get (leaf_paths tree) leaf) []

-- the area that tells of a portion of a message on a leaf
abbrev pub given_area : List TreeRow → ℕ → Message → Portion → List ℕ → List ℕ
given_area tree leaf message portion area =
    portion_area (path_of_leaf tree leaf) message portion area

-- the area after a RECEIVE that found nothing
abbrev pub no_data_area : List ℕ → List ℕ
no_data_area area = with_portion (codes "0000") (codes "0") area

-- the area after a count: MAX_COUNT where more wait
abbrev pub counted_area : ℕ → List ℕ → List ℕ
counted_area count area =
    with_input_status S00 (set_in field.Count area (in_digits (min count MAX_COUNT) 6))
