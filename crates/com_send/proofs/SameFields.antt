-- Fields that are compared as numbers.
use Rattle.std.proofs.Common.{◌≡◌, ℕ, Bool, true, false, ◌&&◌, inl, inr, List, ◌++◌, take, drop, refl, sym, ap, ◌∙◌}
use Rattle.std.specs.Prelude.{◌==◌, bytes_eq}
use Rattle.std.specs.Int.{from_le_bytes, to_le_bytes, w32, w64}
use Rattle.std.proofs.lemmas.Bool.{cases_Bool, eq-eqb, eqb-true, false≢true}
use Rattle.std.proofs.lemmas.List.{take-append-drop}
use Rattle.std.proofs.lemmas.Slice.Eq.{bytes_eq-Decides}

both_true : (a b : Bool) → (a && b) ≡ true → (a ≡ true) × (b ≡ true)
both_true true true h = (refl, refl)
both_true true false h = absurd (false≢true h)
both_true false b h = absurd (false≢true h)

-- the numbers of the first eight bytes and of the others are equal where the fields are
pub same_by_words : (xs ys : List ℕ) (n m k l : ℕ)
    → n ≡ from_le_bytes w64 (take 8 xs) → m ≡ from_le_bytes w64 (take 8 ys)
    → k ≡ from_le_bytes w32 (drop 8 xs) → l ≡ from_le_bytes w32 (drop 8 ys)
    → to_le_bytes w64 n ≡ take 8 xs → to_le_bytes w64 m ≡ take 8 ys
    → to_le_bytes w32 k ≡ drop 8 xs → to_le_bytes w32 l ≡ drop 8 ys
    → ((n == m) && (k == l)) ≡ bytes_eq xs ys
same_by_words xs ys n m k l is_n is_m is_k is_l of_n of_m of_k of_l =
    elim (cases_Bool ((n == m) && (k == l))) [
      | inl alike ↦
          let parts = both_true (n == m) (k == l) alike in
          let first : take 8 xs ≡ take 8 ys = sym of_n ∙ (ap (to_le_bytes w64) (eqb-true n m parts.0) ∙ of_m) in
          let last : drop 8 xs ≡ drop 8 ys = sym of_k ∙ (ap (to_le_bytes w32) (eqb-true k l parts.1) ∙ of_l) in
          let same : xs ≡ ys = sym (take-append-drop 8 xs) ∙ (ap (λ (front : List ℕ). front ++ drop 8 xs) first ∙ (ap (λ (rest : List ℕ). take 8 ys ++ rest) last ∙ take-append-drop 8 ys)) in
          alike ∙ sym ((bytes_eq-Decides xs ys).1 same)
      | inr unlike ↦ elim (cases_Bool (bytes_eq xs ys)) [
        | inl equal ↦
            let same : xs ≡ ys = (bytes_eq-Decides xs ys).0 equal in
            let first : n ≡ m = is_n ∙ (ap (λ (zs : List ℕ). from_le_bytes w64 (take 8 zs)) same ∙ sym is_m) in
            let last : k ≡ l = is_k ∙ (ap (λ (zs : List ℕ). from_le_bytes w32 (drop 8 zs)) same ∙ sym is_l) in
            absurd (false≢true (sym unlike ∙ rw (eq-eqb n m first, eq-eqb k l last) refl))
        | inr different ↦ unlike ∙ sym different
      ]
    ]
