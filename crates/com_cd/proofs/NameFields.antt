-- The name fields of a path, written one after another.
use Rattle.std.proofs.Common.{◌≡◌, ℕ, ◌+◌, ◌-◌, ◌*◌, ◌<◌, List, [], ◌∷◌, ◌++◌, length, take, drop, get_or, refl, sym, ap, ◌∙◌, arith, length-append, append_assoc, add-one}
use Rattle.std.specs.List.{flat_map}
use Rattle.std.proofs.Math.Seq.{take-suc}
use Rattle.std.proofs.lemmas.List.{append-nil, take_at, drop_at, drop-replicate, length-take-le, length-drop}
use Rattle.std.proofs.lemmas.Grind.{flat_map-append}
use Rattle.com_text.specs.Name.{field_of, spaces}
use Rattle.com_cd.specs.Designation.{path_fields}

-- twelve characters in place of as many after a front
written_behind : (front rest value : List ℕ) (n : ℕ) → length front ≡ n → take n (front ++ rest) ++ (value ++ drop 12 (drop n (front ++ rest))) ≡ front ++ (value ++ drop 12 rest)
written_behind front rest value n e = rw (take_at front rest n e, drop_at front rest n e) refl

-- one more field in front of the spaces
field_behind : (names : List (List ℕ)) (name : List ℕ) → flat_map field_of names ++ (field_of name ++ drop 12 (spaces (48 - 12 * length names))) ≡ path_fields (names ++ name ∷ [])
field_behind names name =
    let fewer : 48 - 12 * length names - 12 ≡ 48 - 12 * (length names + 1) = omega arith in
    let left : drop 12 (spaces (48 - 12 * length names)) ≡ spaces (48 - 12 * (length names + 1)) = drop-replicate 12 (48 - 12 * length names) 32 ∙ ap spaces fewer in
    let longer : length (names ++ name ∷ []) ≡ length names + 1 = omega (arith, length-append names (name ∷ [])) in
    rw (left, flat_map-append field_of names (name ∷ []), longer) (simp (append_assoc, append-nil))

-- the fields of one name more of a path
pub one_field_more : (names : List (List ℕ)) (i : ℕ) (name fields value : List ℕ) (width : ℕ) → length (flat_map field_of (take i names)) ≡ 12 * i → i < length names → get_or names i name ≡ name
    → fields ≡ path_fields (take i names) → value ≡ field_of name → width ≡ 12 → take (i * 12) fields ++ (value ++ drop width (drop (i * 12) fields)) ≡ path_fields (take (i + 1) names)
one_field_more names i name fields value width wide within read so_far written twelve =
    let more : take (i + 1) names ≡ take i names ++ name ∷ [] = rw add-one (take-suc names i name within ∙ ap (λ (n : List ℕ). take i names ++ n ∷ []) read) in
    let long : length (flat_map field_of (take i names)) ≡ i * 12 = omega (arith, wide) in
    rw (so_far, written, twelve) (written_behind (flat_map field_of (take i names)) (spaces (48 - 12 * length (take i names))) (field_of name) (i * 12) long
    ∙ (field_behind (take i names) name ∙ ap path_fields (sym more)))

-- and their width
pub one_width_more : (names : List (List ℕ)) (i : ℕ) (name : List ℕ) → length (flat_map field_of (take i names)) ≡ 12 * i → length (field_of name) ≡ 12 → i < length names → get_or names i name ≡ name
    → length (flat_map field_of (take (i + 1) names)) ≡ 12 * (i + 1)
one_width_more names i name wide twelve within read =
    let more : take (i + 1) names ≡ take i names ++ name ∷ [] = rw add-one (take-suc names i name within ∙ ap (λ (n : List ℕ). take i names ++ n ∷ []) read) in
    let joined : flat_map field_of (take i names ++ name ∷ []) ≡ flat_map field_of (take i names) ++ (field_of name ++ []) = flat_map-append field_of (take i names) (name ∷ []) in
    rw more (rw joined (omega (arith, length-append (flat_map field_of (take i names)) (field_of name ++ []), length-append (field_of name) [], wide, twelve)))

-- a field's place in the fields is as wide as a field
pub place_width : (fields : List ℕ) (i width : ℕ) → length fields ≡ 48 → i < 4 → width ≡ 12 → length (take width (drop (i * 12) fields)) ≡ 12
place_width fields i width long few twelve = rw twelve (length-take-le 12 (drop (i * 12) fields) (omega (arith, length-drop (i * 12) fields, long, few)))

-- with a field in the place of another the fields are as long as before
pub still_long : (fields value : List ℕ) (i width : ℕ) → length fields ≡ 48 → i < 4 → length value ≡ 12 → width ≡ 12 → length (take (i * 12) fields ++ (value ++ drop width (drop (i * 12) fields))) ≡ 48
still_long fields value i width long few wide twelve =
    rw twelve (omega (arith, length-append (take (i * 12) fields) (value ++ drop 12 (drop (i * 12) fields)), length-append value (drop 12 (drop (i * 12) fields)), length-take-le (i * 12) fields (omega (arith, long, few)), length-drop 12 (drop (i * 12) fields), length-drop (i * 12) fields, long, few, wide))
