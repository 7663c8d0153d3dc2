-- Finding the destinations of an area, one occurrence after another.
use Rattle.std.proofs.Common.{◌≡◌, ℕ, zero, suc, ◌+◌, List, [], ◌∷◌, ◌++◌, length, map, ap, ◌∙◌, arith, add-one}
use Rattle.std.specs.List.{range_with_len}
use Rattle.std.proofs.lemmas.List.{map-append}
use Rattle.std.proofs.lemmas.List.FromFn.{length-map-range_with_len}
use Rattle.com_cd.specs.OutputArea.{out_field}
use Rattle.com_cd.specs.declared.output_area.OutField.TheVariants as field
use Rattle.com_send.specs.declared.destination.Destination.{Destination}
use Rattle.com_send.specs.Found.{found_in, destination_with}

-- one number more at the end
pub range_more : (a n : ℕ) → range_with_len a (suc n) ≡ range_with_len a n ++ (a + n) ∷ []
range_more a zero = ap (λ (k : ℕ). k ∷ []) (let e : a ≡ a + 0 = omega arith in e)
range_more a (suc n) =
    let e : a + 1 + n ≡ a + suc n = omega arith in
    ap (λ (rest : List ℕ). a ∷ rest) (range_more (a + 1) n ∙ ap (λ (k : ℕ). range_with_len (a + 1) n ++ k ∷ []) e)

-- one occurrence more is found at the end
pub found_more : (destinations : List Destination) (area : List ℕ) (n : ℕ)
    → found_in destinations area (n + 1)
    ≡ found_in destinations area n ++ destination_with destinations (out_field (field.Destination n) area) ∷ []
found_more destinations area n =
    let found = λ (at : ℕ). destination_with destinations (out_field (field.Destination at) area) in
    let first : 0 + n ≡ n = omega arith in
    let more : range_with_len 0 (n + 1) ≡ range_with_len 0 n ++ n ∷ [] =
    rw add-one (range_more 0 n ∙ ap (λ (k : ℕ). range_with_len 0 n ++ k ∷ []) first) in
    ap (map found) more ∙ map-append found (range_with_len 0 n) (n ∷ [])

pub found_length : (destinations : List Destination) (area : List ℕ) (n : ℕ)
    → length (found_in destinations area n) ≡ n
found_length destinations area n =
    length-map-range_with_len (λ (at : ℕ). destination_with destinations (out_field (field.Destination at) area)) 0 n
