-- Output areas, and the arrays of 114 characters that hold them.
use Rattle.std.proofs.Common.{◌≡◌, ℕ, zero, suc, ◌+◌, ◌-◌, ◌*◌, ◌<◌, ◌≤◌, List, ◌∷◌, ◌++◌, length, take, drop, set, refl, sym, ap, ◌∙◌, arith, length-append}
use Rattle.std.proofs.lemmas.List.{append_assoc, take_at, take-append-le, drop-append-le, length-replicate, replicate-append-replicate}
use Rattle.std.proofs.Math.Seq.{set-append_seam}
use Rattle.com_text.specs.Text.{IsText}
use Rattle.com_text.specs.Name.{spaces}
use Rattle.com_text.proofs.Texts.{IsText-append}
use Rattle.com_cd.specs.OutputArea.{IsFieldOf, IsOutputArea, occurrences_of, opening_output, out_start, out_width, padded_area, set_out}
use Rattle.com_cd.specs.Parts.{with_part}
use Rattle.com_cd.proofs.Parted.{IsText-with_part, length-with_part}
use Rattle.com_cd.specs.declared.output_area.OutField.{OutField}
use Rattle.com_cd.specs.declared.output_area.OutField.TheVariants.{Count, Length, Status, Error, Destination}

-- an array holds an area of so many occurrences at its front
abbrev pub Holds : List ℕ → ℕ → Type 0
Holds bytes n = IsOutputArea (take (10 + 13 * n) bytes) × (n ≡ occurrences_of (take (10 + 13 * n) bytes))
    × (bytes ≡ padded_area (take (10 + 13 * n) bytes)) × (length bytes ≡ 114)

-- the length of an area tells its occurrences
pub occurrences_by_length : (area : List ℕ) (n : ℕ) → length area ≡ 10 + 13 * n → occurrences_of area ≡ n
occurrences_by_length area n e = omega (arith, e)

-- a text of such a length is an area
pub is_area : (area : List ℕ) (n : ℕ) → length area ≡ 10 + 13 * n → 1 ≤ n → n ≤ 8 → IsText area → IsOutputArea area
is_area area n e some few text =
    let same = occurrences_by_length area n e in
    record {
      some = omega (arith, same);
      few = omega (arith, same);
      whole = omega (arith, same, e);
      text = text;
    }

-- an area with its spaces gives the area back
pub front_of_padded : (area bytes : List ℕ) (n : ℕ) → length area ≡ 10 + 13 * n → bytes ≡ padded_area area → take (10 + 13 * n) bytes ≡ area
front_of_padded area bytes n e same = rw same (take_at area _ (10 + 13 * n) e)

-- with its spaces an area is held
pub held : (area bytes : List ℕ) (n : ℕ) → length area ≡ 10 + 13 * n → 1 ≤ n → n ≤ 8 → IsText area → bytes ≡ padded_area area → Holds bytes n
held area bytes n e some few text same =
    let front = front_of_padded area bytes n e same in
    let full : length bytes ≡ 114 =
    ap length same ∙ (length-append area (spaces (114 - length area)) ∙ (ap (λ k. length area + k) (length-replicate (114 - length area) 32) ∙ omega arith)) in
    rw front (is_area area n e some few text, sym (occurrences_by_length area n e), same, full)

-- the opening area has the length of its occurrences, and is a text
pub length-opening_output : (n : ℕ) → length (opening_output n) ≡ 10 + 13 * n
length-opening_output zero = refl
length-opening_output (suc n) = omega (arith, length-append (opening_output n) (48 ∷ spaces 12), length-opening_output n)

pub IsText-opening_output : (n : ℕ) → IsText (opening_output n)
IsText-opening_output zero = refl
IsText-opening_output (suc n) = IsText-append (opening_output n) _ (IsText-opening_output n) refl

-- one more ERROR KEY in the spaces after an opening area makes the next opening area
pub opening_more : (n : ℕ) → n < 8 → set (opening_output n ++ spaces (104 - 13 * n)) (10 + 13 * n) 48 ≡ opening_output (n + 1) ++ spaces (104 - 13 * (n + 1))
opening_more n lt =
    let rest = 104 - 13 * (n + 1) in
    let room : 104 - 13 * n ≡ suc (12 + rest) = omega arith in
    let one : n + 1 ≡ suc n = omega arith in
    let behind : 48 ∷ spaces (12 + rest) ≡ (48 ∷ spaces 12) ++ spaces rest = ap (λ s. 48 ∷ s) (sym (replicate-append-replicate 12 rest 32)) in
    let place = length-opening_output n in
    let seam = set-append_seam (opening_output n) 32 (spaces (12 + rest)) 48 in
    let step : set (opening_output n ++ spaces (104 - 13 * n)) (10 + 13 * n) 48 ≡ opening_output n ++ 48 ∷ spaces (12 + rest) = rw (room, ← place) seam in
    step ∙ (ap (λ s. opening_output n ++ s) behind ∙ (sym (append_assoc (opening_output n) (48 ∷ spaces 12) (spaces rest))
    ∙ ap (λ k. opening_output k ++ spaces rest) (sym one)))

-- at the last occurrence the array is the opening area with its spaces
pub opening_done : (bytes : List ℕ) (at n : ℕ) → bytes ≡ opening_output at ++ spaces (104 - 13 * at) → at ≡ n → bytes ≡ padded_area (opening_output n)
opening_done bytes at n e done =
    let room : 104 - 13 * n ≡ 114 - length (opening_output n) = omega (arith, length-opening_output n) in
    rw (done, room) at e

-- each field ends within the area
end_within : (n : ℕ) (field : OutField) → IsFieldOf n field → out_start field + out_width field ≤ 10 + 13 * n
end_within n Count h = omega arith
end_within n Length h = omega arith
end_within n Status h = omega arith
end_within n (Error at) h = omega arith
end_within n (Destination at) h = omega arith

-- a part that is written in the array is written in the area that it holds
with_part-padded : (area value bytes : List ℕ) (start width : ℕ) → start + width ≤ length area → bytes ≡ padded_area area
    → with_part start width bytes value ≡ with_part start width area value ++ spaces (114 - length area)
with_part-padded area value bytes start width within e =
    let pad = spaces (114 - length area) in
    let front : take start bytes ≡ take start area = ap (take start) e ∙ take-append-le start area pad (omega arith) in
    let behind : drop (start + width) bytes ≡ drop (start + width) area ++ pad = ap (drop (start + width)) e ∙ drop-append-le (start + width) area pad within in
    rw (front, behind) (sym (append_assoc (take start area ++ value) (drop (start + width) area) pad))

-- a field that is written leaves an area of as many occurrences
field_written : (field : OutField) (area value bytes : List ℕ) (n : ℕ) → IsOutputArea area → n ≡ occurrences_of area → IsFieldOf n field
    → length value ≡ out_width field → IsText value → bytes ≡ padded_area area
    → Holds (set_out field bytes value) n × (take (10 + 13 * n) (set_out field bytes value) ≡ set_out field area value)
field_written field area value bytes n h same inside width text e =
    let start = out_start field in
    let whole : length area ≡ 10 + 13 * n = omega (arith, h.whole, same) in
    let within : start + out_width field ≤ length area = omega (arith, end_within n field inside) in
    let unchanged = length-with_part start (out_width field) area value within width in
    let all = with_part-padded area value bytes start (out_width field) within e in
    let padding : set_out field bytes value ≡ padded_area (set_out field area value) = rw unchanged all in
    let long : length (set_out field area value) ≡ 10 + 13 * n = unchanged ∙ whole in (
      held (set_out field area value) _ n long (omega (arith, h.some, same)) (omega (arith, h.few, same)) (IsText-with_part start (out_width field) area value h.text text) padding,
      front_of_padded (set_out field area value) _ n long padding,
    )

-- an array that holds an area holds the written one once a field of it is written
pub held_written : (field : OutField) (area value bytes : List ℕ) (n : ℕ) → Holds bytes n → take (10 + 13 * n) bytes ≡ area
    → IsFieldOf (occurrences_of area) field → length value ≡ out_width field → IsText value
    → Holds (set_out field bytes value) n × (take (10 + 13 * n) (set_out field bytes value) ≡ set_out field area value)
held_written field area value bytes n h view inside width text =
    let count : n ≡ occurrences_of area = h.1 ∙ ap occurrences_of view in
    let valid : IsOutputArea area = rw view at h.0 in
    field_written field area value bytes n valid count (rw count inside) width text (h.2 ∙ ap padded_area view)

-- a field of the area that an array holds ends within the array
pub field_within : (field : OutField) (area bytes : List ℕ) (n : ℕ) → Holds bytes n → take (10 + 13 * n) bytes ≡ area → IsFieldOf (occurrences_of area) field
    → out_start field + out_width field ≤ 114
field_within field area bytes n h view inside =
    let count : n ≡ occurrences_of area = h.1 ∙ ap occurrences_of view in
    omega (arith, end_within n field (rw count inside), h.0.few, h.1)
