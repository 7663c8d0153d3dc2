-- Lists read by `get_elem?` and `slice_get`, and sums over them.
use Rattle.std.proofs.Common.{◌≡◌, ℕ, zero, suc, ◌+◌, ◌<◌, ◌≤◌, ◌⊎◌, List, [], ◌∷◌, ◌++◌, length, get_or, set, sum_by, Contains, Some, None, slice_get, sym, refl, ap, subst, ⊎_elim, inl, inr, arith}
use mathlib.Core.Option.{some, some-injective, some-ne-none}
use lib.ListN.{get_elem?}
use Rattle.std.proofs.lemmas.List.Sums.{sum_by-cons, sum_by-set}

pub Some-injective : {A : Type 0} (a b : A) → Some a ≡ Some b → a ≡ b
Some-injective a b e = cc

pub None-Some : {A : Type 0} (a : A) → None ≡ Some a → ⊥
None-Some a e = cc

pub cons-nil : {A : Type 0} (x : A) (xs : List A) → x ∷ xs ≡ [] → ⊥
cons-nil x xs e = cc

module _ {A : Type 0} where
  pub within : (l : List A) (i : ℕ) (a : A) → get_elem? l i ≡ some a → i < length l
  within [] i a e = absurd (some-ne-none a (sym e))
  within (x ∷ xs) zero a e = omega arith
  within (x ∷ xs) (suc i) a e = let h = within xs i a e in omega arith

  pub value_at : (l : List A) (i : ℕ) (a d : A) → get_elem? l i ≡ some a → get_or l i d ≡ a
  value_at [] i a d e = absurd (some-ne-none a (sym e))
  value_at (x ∷ xs) zero a d e = some-injective x a e
  value_at (x ∷ xs) (suc i) a d e = value_at xs i a d e

  -- the sum after one item was replaced
  pub sum_by-replaced : (f : A → ℕ) (l : List A) (i : ℕ) (a b : A) → get_elem? l i ≡ some a → sum_by f (set l i b) + f a ≡ sum_by f l + f b
  sum_by-replaced f l i a b e = subst (λ z. sum_by f (set l i b) + f z ≡ sum_by f l + f b) (value_at l i a a e) (sum_by-set f l i b a (within l i a e))

  pub sum_by-few : (f : A → ℕ) → ((a : A) → f a ≤ 1) → (l : List A) → sum_by f l ≤ length l
  sum_by-few f small [] = omega arith
  sum_by-few f small (x ∷ xs) = let a = small x in let b = sum_by-few f small xs in subst (λ n. n ≤ suc (length xs)) (sym (sum_by-cons f x xs)) (omega arith)

  -- what stands in a list with one more at its end, and where
  pub at_end : (l : List A) (a b : A) (j : ℕ) → get_elem? (l ++ a ∷ []) j ≡ some b → (get_elem? l j ≡ some b) ⊎ ((j ≡ length l) × (a ≡ b))
  at_end [] a b zero e = inr (refl, some-injective a b e)
  at_end [] a b (suc j) e = absurd (some-ne-none b (sym e))
  at_end (x ∷ xs) a b zero e = inl e
  at_end (x ∷ xs) a b (suc j) e = ⊎_elim (λ h. inl h) (λ t. inr (ap suc t.0, t.1)) (at_end xs a b j e)

  pub no_item : (a : A) → Contains [] a → ⊥
  no_item a h = let f : h.0 < 0 = h.1 in omega (arith, f)

  pub contains_cons : (x : A) (xs : List A) (a : A) → Contains (x ∷ xs) a → (x ≡ a) ⊎ Contains xs a
  contains_cons x xs a (zero, lt, e) = inl e
  contains_cons x xs a (suc k, lt, e) = inr (k, omega (arith, lt), e)

  pub contains_first : (x : A) (xs : List A) → Contains (x ∷ xs) x
  contains_first x xs = (0, omega arith, refl)

  pub contains_rest : (x : A) (xs : List A) (a : A) → Contains xs a → Contains (x ∷ xs) a
  contains_rest x xs a h = let lt = h.1 in (suc h.0, omega (arith, lt), h.2)

  pub slice_get-front : (l m : List A) (i : ℕ) → i < length l → slice_get (l ++ m) i ≡ slice_get l i
  slice_get-front [] m i lt = absurd (omega (arith, lt))
  slice_get-front (x ∷ xs) m zero lt = refl
  slice_get-front (x ∷ xs) m (suc i) lt = slice_get-front xs m i (omega (arith, lt))

  pub slice_get-last : (l : List A) (a : A) (i : ℕ) → i ≡ length l → slice_get (l ++ a ∷ []) i ≡ Some a
  slice_get-last [] a zero e = refl
  slice_get-last [] a (suc i) e = absurd (omega (arith, e))
  slice_get-last (x ∷ xs) a zero e = absurd (omega (arith, e))
  slice_get-last (x ∷ xs) a (suc i) e = slice_get-last xs a i (omega (arith, e))

  pub slice_get-within : (l : List A) (i : ℕ) → i < length l → (a : A) × (slice_get l i ≡ Some a)
  slice_get-within [] i lt = absurd (omega (arith, lt))
  slice_get-within (x ∷ xs) zero lt = (x, refl)
  slice_get-within (x ∷ xs) (suc i) lt = slice_get-within xs i (omega (arith, lt))

  pub get_within : (l : List A) (i : ℕ) (a : A) → slice_get l i ≡ Some a → i < length l
  get_within [] i a e = absurd (None-Some a e)
  get_within (x ∷ xs) zero a e = omega arith
  get_within (x ∷ xs) (suc i) a e = let h = get_within xs i a e in omega (arith, h)

  pub get_of_index : (l : List A) (i : ℕ) (a : A) → i < length l → get_or l i a ≡ a → slice_get l i ≡ Some a
  get_of_index [] i a lt e = absurd (omega (arith, lt))
  get_of_index (x ∷ xs) zero a lt e = ap Some e
  get_of_index (x ∷ xs) (suc i) a lt e = get_of_index xs i a (omega (arith, lt)) e

  pub index_of_get : (l : List A) (i : ℕ) (a d : A) → slice_get l i ≡ Some a → get_or l i d ≡ a
  index_of_get [] i a d e = absurd (None-Some a e)
  index_of_get (x ∷ xs) zero a d e = Some-injective x a e
  index_of_get (x ∷ xs) (suc i) a d e = index_of_get xs i a d e

  -- in range any default serves
  pub index_any : (l : List A) (i : ℕ) (d e : A) → i < length l → get_or l i d ≡ get_or l i e
  index_any [] i d e lt = absurd (omega (arith, lt))
  index_any (x ∷ xs) zero d e lt = refl
  index_any (x ∷ xs) (suc i) d e lt = index_any xs i d e (omega (arith, lt))
