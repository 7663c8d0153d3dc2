-- Elements by their place, in a list that is written or grows.
use Rattle.std.proofs.Common.{◌≡◌, ◌≢◌, ℕ, zero, suc, List, [], ◌∷◌, ◌++◌, Some, length, refl, ap, inl, inr}
use Rattle.std.specs.Prelude.{◌⊎◌, slice_get, slice_set}
use Rattle.std.proofs.lemmas.Option.{none-some, same_Some}

-- what is written at a place is there
pub get_set_here : {X : Type 0} (xs : List X) (i : ℕ) (x y : X) → slice_get xs i ≡ Some x → slice_get (slice_set xs i y) i ≡ Some y
get_set_here {X} [] i x y h = absurd (none-some x h)
get_set_here {X} (z ∷ xs) zero x y h = refl
get_set_here {X} (z ∷ xs) (suc i) x y h = get_set_here xs i x y h

-- and elsewhere stands what stood there
pub get_set_elsewhere : {X : Type 0} (xs : List X) (i j : ℕ) (y : X) → j ≢ i → slice_get (slice_set xs i y) j ≡ slice_get xs j
get_set_elsewhere {X} [] i j y ne = refl
get_set_elsewhere {X} (z ∷ xs) zero zero y ne = absurd (ne refl)
get_set_elsewhere {X} (z ∷ xs) zero (suc j) y ne = refl
get_set_elsewhere {X} (z ∷ xs) (suc i) zero y ne = refl
get_set_elsewhere {X} (z ∷ xs) (suc i) (suc j) y ne = get_set_elsewhere xs i j y (λ e. ne (ap suc e))

-- what is in a list stays at its place when the list grows
pub get_front : {X : Type 0} (xs ys : List X) (i : ℕ) (x : X) → slice_get xs i ≡ Some x → slice_get (xs ++ ys) i ≡ Some x
get_front {X} [] ys i x h = absurd (none-some x h)
get_front {X} (z ∷ xs) ys zero x h = h
get_front {X} (z ∷ xs) ys (suc i) x h = get_front xs ys i x h

-- what a list has grown by stands last
pub get_last : {X : Type 0} (xs : List X) (y : X) → slice_get (xs ++ y ∷ []) (length xs) ≡ Some y
get_last {X} [] y = refl
get_last {X} (x ∷ xs) y = get_last xs y

-- an element of a list that has grown was there, or is the new one
pub get_cases : {X : Type 0} (xs : List X) (y : X) (i : ℕ) (x : X) → slice_get (xs ++ y ∷ []) i ≡ Some x → (slice_get xs i ≡ Some x) ⊎ ((i ≡ length xs) × (y ≡ x))
get_cases {X} [] y zero x h = inr (refl, same_Some y x h)
get_cases {X} [] y (suc i) x h = absurd (none-some x h)
get_cases {X} (z ∷ xs) y zero x h = inl h
get_cases {X} (z ∷ xs) y (suc i) x h = elim (get_cases xs y i x h) [ inl there ↦ inl there | inr new ↦ inr (ap suc new.0, new.1) ]
