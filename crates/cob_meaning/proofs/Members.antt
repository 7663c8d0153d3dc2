-- What is in a list, by recursion on the list.
use Rattle.std.proofs.Common.{◌≡◌, ◌⊎◌, inl, inr, ◌<◌, ℕ, zero, suc, List, [], ◌∷◌, ◌++◌, length, refl, sym, arith}
use Rattle.std.specs.List.{Contains, flat_map}
use Rattle.std.specs.Prelude.{slice_index_or}

abbrev pub Member : {A : Type 0} → A → List A → Type 0
Member y [] = ⊥
Member y (x ∷ xs) = (y ≡ x) ⊎ Member y xs

pub in_left : {A : Type 0} (y : A) (xs ys : List A) → Member y xs → Member y (xs ++ ys)
in_left y [] ys h = absurd h
in_left y (x ∷ xs) ys (inl e) = inl e
in_left y (x ∷ xs) ys (inr h) = inr (in_left y xs ys h)

pub in_right : {A : Type 0} (y : A) (xs ys : List A) → Member y ys → Member y (xs ++ ys)
in_right y [] ys h = h
in_right y (x ∷ xs) ys h = inr (in_right y xs ys h)

pub in_either : {A : Type 0} (y : A) (xs ys : List A) → Member y (xs ++ ys) → Member y xs ⊎ Member y ys
in_either y [] ys h = inr h
in_either y (x ∷ xs) ys (inl e) = inl (inl e)
in_either {A} y (x ∷ xs) ys (inr h) = by (in_either y xs ys h)
  where
    by : Member y xs ⊎ Member y ys → Member y (x ∷ xs) ⊎ Member y ys
    by (inl k) = inl (inr k)
    by (inr k) = inr k

-- in what is made of a member
pub record FromMember {A B : Type 0} (f : A → List B) (y : B) (xs : List A) : Type 0 where
  pub from : A
  pub member : Member from xs
  pub made : Member y (f from)

pub in_flat_map : {A B : Type 0} (f : A → List B) (y : B) (x : A) (xs : List A) → Member x xs → Member y (f x) → Member y (flat_map f xs)
in_flat_map f y x [] h k = absurd h
in_flat_map f y x (z ∷ zs) (inl e) k = in_left y (f z) (flat_map f zs) (rw (← e) k)
in_flat_map f y x (z ∷ zs) (inr h) k = in_right y (f z) (flat_map f zs) (in_flat_map f y x zs h k)

pub of_flat_map : {A B : Type 0} (f : A → List B) (y : B) (xs : List A) → Member y (flat_map f xs) → FromMember f y xs
of_flat_map f y [] h = absurd h
of_flat_map {A} {B} f y (z ∷ zs) h = by (of_flat_map f y zs) (in_either y (f z) (flat_map f zs) h)
  where
    by : (Member y (flat_map f zs) → FromMember f y zs) → Member y (f z) ⊎ Member y (flat_map f zs) → FromMember f y (z ∷ zs)
    by others (inl k) = record { from = z; member = inl refl; made = k }
    by others (inr k) = let m = others k in record { from = m.from; member = inr m.member; made = m.made }

pub member_of : {A : Type 0} (xs : List A) (x : A) → Contains xs x → Member x xs
member_of xs x h = by xs h.0 h.1 h.2
  where
    by : (xs : List _) (k : ℕ) → k < length xs → slice_index_or xs k x ≡ x → Member x xs
    by [] k lt e = absurd (omega arith)
    by (y ∷ ys) zero lt e = inl (sym e)
    by (y ∷ ys) (suc k) lt e = inr (by ys k (omega arith) e)

pub contains_of : {A : Type 0} (xs : List A) (x : A) → Member x xs → Contains xs x
contains_of [] x h = absurd h
contains_of (y ∷ ys) x (inl e) = (0, omega arith, sym e)
contains_of (y ∷ ys) x (inr h) = let c = contains_of ys x h in (suc c.0, omega (arith, c.1), c.2)
