-- Numbers, each once, and one more number after them.
use Rattle.std.proofs.Common.{◌≡◌, ℕ, true, false, not, List, [], ◌∷◌, ◌++◌, refl, ap, ◌∙◌, inl, inr}
use Rattle.std.specs.Prelude.{◌==◌}
use Rattle.std.specs.List.{filter}
use Rattle.std.proofs.lemmas.Bool.{ne_eqb}
use Rattle.std.proofs.lemmas.List.{append-nil}
use Rattle.std.proofs.lemmas.List.Elements.{filter-append}
use Rattle.std.proofs.Common.{eq-eqb}
use Rattle.com_state.specs.Wholeness.{each_once}
use Rattle.com_recv.proofs.Members.{Among, among_or_not}

-- the other numbers
abbrev others : ℕ → List ℕ → List ℕ
others n numbers = filter (λ other. not (other == n)) numbers

-- a new number comes after
pub once_new : (n : ℕ) (numbers : List ℕ) → (Among n numbers → ⊥) → each_once (numbers ++ n ∷ []) ≡ each_once numbers ++ n ∷ []
once_new n [] absent = refl
once_new n (m ∷ numbers) absent =
    let behind : each_once (numbers ++ n ∷ []) ≡ each_once numbers ++ n ∷ [] = once_new n numbers (λ h. absent (inr h)) in
    let stays : (n == m) ≡ false = ne_eqb n m (λ e. absent (inl e)) in
    let last : others m (n ∷ []) ≡ n ∷ [] = rw stays refl in
    ap (λ rest. m ∷ others m rest) behind ∙ ap (λ rest. m ∷ rest) (filter-append (λ other. not (other == m)) (each_once numbers) (n ∷ []) ∙ ap (λ rest. others m (each_once numbers) ++ rest) last)

-- a number that was there comes no second time
pub once_old : (n : ℕ) (numbers : List ℕ) → Among n numbers → each_once (numbers ++ n ∷ []) ≡ each_once numbers
once_old n [] h = absurd h
once_old n (m ∷ numbers) h = elim (among_or_not n numbers) [
  | inl behind ↦ ap (λ rest. m ∷ others m rest) (once_old n numbers behind)
  | inr absent ↦ elim h [
    | inr behind ↦ absurd (absent behind)
    | inl e ↦
        let gone : (n == m) ≡ true = eq-eqb n m e in
        let last : others m (n ∷ []) ≡ [] = rw gone refl in
        ap (λ rest. m ∷ others m rest) (once_new n numbers absent)
        ∙ ap (λ rest. m ∷ rest) (filter-append (λ other. not (other == m)) (each_once numbers) (n ∷ []) ∙ (ap (λ rest. others m (each_once numbers) ++ rest) last ∙ append-nil (others m (each_once numbers))))
  ]
]
