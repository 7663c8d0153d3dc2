-- A status key that was written is read back.
use Rattle.std.proofs.Common.{◌≡◌, ℕ, ◌+◌, ◌-◌, ◌≤◌, List, ◌++◌, length, take, drop, refl, sym, ap, ◌∙◌, arith, append_assoc}
use Rattle.std.specs.Prelude.{if◌then◌else◌, codes, slice_range}
use Rattle.std.specs.Str.{bytes_eq}
use Rattle.std.proofs.lemmas.List.{take_at, drop_at, length-take-le}
use Rattle.com_cd.specs.InputArea.{in_field}
use Rattle.com_cd.specs.OutputArea.{out_field}
use Rattle.com_cd.specs.Status.{status_bytes, with_input_status, with_output_status}
use Rattle.com_cd.specs.declared.input_area.InField.TheVariants as input
use Rattle.com_cd.specs.declared.output_area.OutField.TheVariants as output
use Rattle.com_cd.specs.declared.status.Status.{Status}
use Rattle.com_cd.specs.declared.status.Status.TheVariants.{S00, S10, S20, S30, S40, S50, S60}

-- what is written at a place is read there
read_back : (area key : List ℕ) (at width : ℕ) → at ≤ length area → length key ≡ width
    → slice_range (take at area ++ key ++ drop (at + width) area) at (at + width) ≡ key
read_back area key at width within e =
    let rest = drop (at + width) area in
    let dropped : drop at (take at area ++ key ++ rest) ≡ key ++ rest =
    ap (drop at) (append_assoc (take at area) key rest) ∙ drop_at (take at area) (key ++ rest) at (length-take-le at area within) in
    let same : (at + width) - at ≡ width = omega arith in
    rw (dropped, same) (take_at key rest width e)

-- a status key by its two characters
abbrev status_of : List ℕ → Status
status_of key =
    if bytes_eq key (codes "00") then S00
    else if bytes_eq key (codes "10") then S10
    else if bytes_eq key (codes "20") then S20
    else if bytes_eq key (codes "30") then S30
    else if bytes_eq key (codes "40") then S40
    else if bytes_eq key (codes "50") then S50
    else S60

status_of_bytes : (status : Status) → status_of (status_bytes status) ≡ status
status_of_bytes S00 = refl
status_of_bytes S10 = refl
status_of_bytes S20 = refl
status_of_bytes S30 = refl
status_of_bytes S40 = refl
status_of_bytes S50 = refl
status_of_bytes S60 = refl

two_bytes : (status : Status) → length (status_bytes status) ≡ 2
two_bytes S00 = refl
two_bytes S10 = refl
two_bytes S20 = refl
two_bytes S30 = refl
two_bytes S40 = refl
two_bytes S50 = refl
two_bytes S60 = refl

-- different keys are written differently
same_status : (one other : Status) → status_bytes one ≡ status_bytes other → one ≡ other
same_status one other e = sym (status_of_bytes one) ∙ (ap status_of e ∙ status_of_bytes other)

-- an input area has the key that was written in it
pub input_status : (area : List ℕ) (own status : Status) → 79 ≤ length area
    → in_field input.Status (with_input_status own area) ≡ status_bytes status → own ≡ status
input_status area own status within e =
    same_status own status (sym (read_back area (status_bytes own) 79 2 within (two_bytes own)) ∙ e)

-- and so has an output area
pub output_status : (area : List ℕ) (own status : Status) → 8 ≤ length area
    → out_field output.Status (with_output_status own area) ≡ status_bytes status → own ≡ status
output_status area own status within e =
    same_status own status (sym (read_back area (status_bytes own) 8 2 within (two_bytes own)) ∙ e)
