-- The first of a list of faults is one of them, and none of them is before it.
use Rattle.std.proofs.Common.{◌≡◌, ◌⊎◌, inl, inr, ℕ, zero, suc, ◌<◌, Bool, true, false, List, [], ◌∷◌, ◌++◌, length, map, get_or, Option, Some, None, refl, sym, ap, subst, ◌∙◌, arith}
use Rattle.std.specs.Prelude.{if◌then◌else◌, Contains, flat_map, slice_index_or}
use Rattle.cob_lex.specs.declared.fault.SourceFault.{SourceFault}
use Rattle.cob_forms.specs.Faults.{earlier, first, is_before}
use Rattle.cob_forms.proofs.Order.{grouped, not_later, swapped}

-- a fault is in a list
pub data In {X : Type 0} (x : X) : List X → Type 0 where
  here : {xs : List X} → In x (x ∷ xs)
  behind : {y : X} {xs : List X} → In x xs → In x (y ∷ xs)

none_before_by : (o : Option SourceFault) (xs : List SourceFault) (x g : SourceFault) → In x xs → earlier o (first xs) ≡ Some g → is_before x g ≡ false
none_before_by o [] x g i e = elim i [ ]
none_before_by o (y ∷ ys) x g here e =
    not_later x g (earlier (first ys) o) (grouped (Some x) (first ys) o ∙ swapped (earlier (Some x) (first ys)) o ∙ e)
none_before_by o (y ∷ ys) x g (behind i) e = none_before_by (earlier o (Some y)) ys x g i (sym (grouped o (Some y) (first ys)) ∙ e)

pub none_before : (xs : List SourceFault) (x g : SourceFault) → In x xs → first xs ≡ Some g → is_before x g ≡ false
none_before xs x g i e = none_before_by None xs x g i e

one_of : (x : SourceFault) (o : Option SourceFault) (g : SourceFault) → earlier (Some x) o ≡ Some g → (g ≡ x) ⊎ (o ≡ Some g)
one_of x None g e = inl (let same : x ≡ g = cc in sym same)
one_of x (Some y) g e = by (is_before y x) e
  where
    by : (b : Bool) → (if b then Some y else Some x) ≡ Some g → (g ≡ x) ⊎ (Some y ≡ Some g)
    by true h = inr h
    by false h = inl (let same : x ≡ g = cc in sym same)

pub is_one : (xs : List SourceFault) (g : SourceFault) → first xs ≡ Some g → In g xs
is_one [] g e = cc
is_one (x ∷ xs) g e = by (one_of x (first xs) g e) (is_one xs g)
  where
    by : (g ≡ x) ⊎ (first xs ≡ Some g) → (first xs ≡ Some g → In g xs) → In g (x ∷ xs)
    by (inl same) others = let P : SourceFault → Type 0 = λ y. In y (x ∷ xs) in subst P (sym same) here
    by (inr h) others = behind (others h)

some_first : (x : SourceFault) (o : Option SourceFault) → earlier (Some x) o ≡ None → ⊥
some_first x None e = cc
some_first x (Some y) e = by (is_before y x) e
  where
    by : (b : Bool) → (if b then Some y else Some x) ≡ None → ⊥
    by true h = cc
    by false h = cc

pub none_in : (xs : List SourceFault) (x : SourceFault) → In x xs → first xs ≡ None → ⊥
none_in [] x i e = elim i [ ]
none_in (y ∷ ys) x i e = some_first y (first ys) e

-- in lists one after another
pub in_left : {X : Type 0} (x : X) (xs ys : List X) → In x xs → In x (xs ++ ys)
in_left x [] ys i = elim i [ ]
in_left x (y ∷ xs) ys here = here
in_left x (y ∷ xs) ys (behind i) = behind (in_left x xs ys i)

pub in_right : {X : Type 0} (x : X) (xs ys : List X) → In x ys → In x (xs ++ ys)
in_right x [] ys i = i
in_right x (y ∷ xs) ys i = behind (in_right x xs ys i)

pub in_either : {X : Type 0} (x : X) (xs ys : List X) → In x (xs ++ ys) → In x xs ⊎ In x ys
in_either x [] ys i = inr i
in_either x (y ∷ xs) ys here = inl here
in_either x (y ∷ xs) ys (behind i) = elim (in_either x xs ys i) [ inl j ↦ inl (behind j) | inr j ↦ inr j ]

-- PARTS OF LISTS

pub from_contains : {X : Type 0} (xs : List X) (x : X) → Contains xs x → In x xs
from_contains {X = X} [] x c = absurd (omega (arith, c.1))
from_contains {X = X} (y ∷ ys) x c = by c.0 c.1 c.2 (λ k lt e. from_contains ys x (k, lt, e))
  where
    by : (k : ℕ) → k < length (y ∷ ys) → slice_index_or (y ∷ ys) k x ≡ x → ((k : ℕ) → k < length ys → slice_index_or ys k x ≡ x → In x ys) → In x (y ∷ ys)
    by zero lt e others = let P : X → Type 0 = λ z. In z (y ∷ ys) in subst P e here
    by (suc k) lt e others = behind (others k (omega (arith, lt)) e)

pub to_contains : {X : Type 0} (xs : List X) (x : X) → In x xs → Contains xs x
to_contains [] x i = elim i [ ]
to_contains (y ∷ ys) x here = (0, omega arith, refl)
to_contains (y ∷ ys) x (behind i) = let c = to_contains ys x i in (suc c.0, omega (arith, c.1), c.2)

pub in_map : {X Y : Type 0} (f : X → Y) (xs : List X) (x : X) → In x xs → In (f x) (map f xs)
in_map f [] x i = elim i [ ]
in_map f (y ∷ ys) x here = here
in_map f (y ∷ ys) x (behind i) = behind (in_map f ys x i)

pub from_map : {X Y : Type 0} (f : X → Y) (xs : List X) (y : Y) → In y (map f xs) → (x : X) × In x xs × (y ≡ f x)
from_map f [] y i = elim i [ ]
from_map f (x ∷ xs) y here = (x, here, refl)
from_map f (x ∷ xs) y (behind i) = let r = from_map f xs y i in (r.0, behind r.1, r.2)

pub in_flat : {X Y : Type 0} (f : X → List Y) (xs : List X) (x : X) (y : Y) → In x xs → In y (f x) → In y (flat_map f xs)
in_flat f [] x y i j = elim i [ ]
in_flat f (z ∷ zs) x y here j = in_left y (f z) (flat_map f zs) j
in_flat f (z ∷ zs) x y (behind i) j = in_right y (f z) (flat_map f zs) (in_flat f zs x y i j)

pub from_flat : {X Y : Type 0} (f : X → List Y) (xs : List X) (y : Y) → In y (flat_map f xs) → (x : X) × In x xs × In y (f x)
from_flat f [] y i = elim i [ ]
from_flat f (x ∷ xs) y i =
    elim (in_either y (f x) (flat_map f xs) i) [
      | inl j ↦ (x, here, j)
      | inr j ↦ (let r = from_flat f xs y j in (r.0, behind r.1, r.2))
    ]

pub in_get : {X : Type 0} (xs : List X) (k : ℕ) (d : X) → k < length xs → In (get_or xs k d) xs
in_get [] k d lt = absurd (omega (arith, lt))
in_get (x ∷ xs) zero d lt = here
in_get (x ∷ xs) (suc k) d lt = behind (in_get xs k d (omega (arith, lt)))

pub same_flat : {X Y : Type 0} (f g : X → List Y) (xs : List X) → ((x : X) → In x xs → f x ≡ g x) → flat_map f xs ≡ flat_map g xs
same_flat f g [] each = refl
same_flat f g (x ∷ xs) each = ap (λ l. l ++ flat_map f xs) (each x here) ∙ ap (λ l. g x ++ l) (same_flat f g xs (λ y i. each y (behind i)))
