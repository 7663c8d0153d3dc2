-- One more byte at the end: of a run, of what stands before it, of what is kept and counted.
use Rattle.std.proofs.Common.{◌≡◌, ℕ, ◌+◌, Bool, true, false, List, [], ◌∷◌, ◌++◌, length, get_or, refl, ap, ◌∙◌, arith, zero, suc}
use Rattle.std.specs.Prelude.{◌&&◌, if◌then◌else◌}
use Rattle.std.specs.List.{list_all, filter, count_by}
use Rattle.std.proofs.lemmas.Bool.{and_right}
use Rattle.std.proofs.lemmas.List.Folds.{list_all-append}
use Rattle.std.proofs.lemmas.List.Elements.{filter-append}
use Rattle.std.proofs.lemmas.List.Sums.{sum_by_push}
use Rattle.std.proofs.lemmas.List.{append-nil}
use Rattle.com_lines.specs.Bytes.{last_of, run, before_run}

-- a list with one more item passes where it passes and the item does
all-push : (p : ℕ → Bool) (xs : List ℕ) (y : ℕ) → list_all p (xs ++ y ∷ []) ≡ (list_all p xs && p y)
all-push p xs y = list_all-append p xs (y ∷ []) ∙ one (p y) (list_all p xs) where
  one : (b c : Bool) → (c && (b && true)) ≡ (c && b)
  one true true = refl
  one true false = refl
  one false true = refl
  one false false = refl

all-push_yes : (p : ℕ → Bool) (xs : List ℕ) (y : ℕ) → p y ≡ true → list_all p (xs ++ y ∷ []) ≡ list_all p xs
all-push_yes p xs y e = all-push p xs y ∙ rw e (same (list_all p xs)) where
  same : (c : Bool) → (c && true) ≡ c
  same true = refl
  same false = refl

all-push_no : (p : ℕ → Bool) (xs : List ℕ) (y : ℕ) → p y ≡ false → list_all p (xs ++ y ∷ []) ≡ false
all-push_no p xs y e = all-push p xs y ∙ and_right (list_all p xs) (p y) e

longer : (b : Bool) (x y : ℕ) (xs others : List ℕ) → (if b then x ∷ (xs ++ y ∷ []) else (others ++ y ∷ [])) ≡ (if b then x ∷ xs else others) ++ y ∷ []
longer true x y xs others = refl
longer false x y xs others = refl

-- an item that passes makes the run longer
pub run-push_yes : (p : ℕ → Bool) (xs : List ℕ) (y : ℕ) → p y ≡ true → run p (xs ++ y ∷ []) ≡ run p xs ++ y ∷ []
run-push_yes p [] y e = rw e refl
run-push_yes p (x ∷ xs) y e =
    rw (all-push_yes p (x ∷ xs) y e, run-push_yes p xs y e) (longer (list_all p (x ∷ xs)) x y xs (run p xs))

-- one that does not ends it
pub run-push_no : (p : ℕ → Bool) (xs : List ℕ) (y : ℕ) → p y ≡ false → run p (xs ++ y ∷ []) ≡ []
run-push_no p [] y e = rw e refl
run-push_no p (x ∷ xs) y e = rw (all-push_no p (x ∷ xs) y e, run-push_no p xs y e) refl

-- an item that passes leaves what stands before the run
pub before_run-push_yes : (p : ℕ → Bool) (xs : List ℕ) (y : ℕ) → p y ≡ true → before_run p (xs ++ y ∷ []) ≡ before_run p xs
before_run-push_yes p [] y e = rw e refl
before_run-push_yes p (x ∷ xs) y e = rw (all-push_yes p (x ∷ xs) y e, before_run-push_yes p xs y e) refl

-- one that does not stands before it with all others
pub before_run-push_no : (p : ℕ → Bool) (xs : List ℕ) (y : ℕ) → p y ≡ false → before_run p (xs ++ y ∷ []) ≡ xs ++ y ∷ []
before_run-push_no p [] y e = rw e refl
before_run-push_no p (x ∷ xs) y e = rw (all-push_no p (x ∷ xs) y e, before_run-push_no p xs y e) refl

split : (b : Bool) (x : ℕ) (xs before others : List ℕ) → before ++ others ≡ xs → (if b then [] else x ∷ before) ++ (if b then x ∷ xs else others) ≡ x ∷ xs
split true x xs before others e = refl
split false x xs before others e = ap (λ ys. x ∷ ys) e

-- the two are the whole
pub before_run-run : (p : ℕ → Bool) (xs : List ℕ) → before_run p xs ++ run p xs ≡ xs
before_run-run p [] = refl
before_run-run p (x ∷ xs) = split (list_all p (x ∷ xs)) x xs (before_run p xs) (run p xs) (before_run-run p xs)

-- the last byte is the one at the end
pub last_of-push : (xs : List ℕ) (y : ℕ) → last_of (xs ++ y ∷ []) ≡ y
last_of-push [] y = refl
last_of-push (x ∷ []) y = refl
last_of-push (x ∷ z ∷ xs) y = last_of-push (z ∷ xs) y

pub last_of-get : (xs : List ℕ) (i : ℕ) → i + 1 ≡ length xs → get_or xs i 0 ≡ last_of xs
last_of-get [] i h = refl
last_of-get (x ∷ []) zero h = refl
last_of-get (x ∷ []) (suc i) h = absurd (omega arith)
last_of-get (x ∷ z ∷ xs) zero h = absurd (omega arith)
last_of-get (x ∷ z ∷ xs) (suc i) h = last_of-get (z ∷ xs) i (omega arith)

-- what is kept of one more byte
pub filter-push_yes : (p : ℕ → Bool) (xs : List ℕ) (y : ℕ) → p y ≡ true → filter p (xs ++ y ∷ []) ≡ filter p xs ++ y ∷ []
filter-push_yes p xs y e = filter-append p xs (y ∷ []) ∙ rw e refl

pub filter-push_no : (p : ℕ → Bool) (xs : List ℕ) (y : ℕ) → p y ≡ false → filter p (xs ++ y ∷ []) ≡ filter p xs
filter-push_no p xs y e = filter-append p xs (y ∷ []) ∙ rw e (append-nil (filter p xs))

pub count-push_yes : (p : ℕ → Bool) (xs : List ℕ) (y : ℕ) → p y ≡ true → count_by p (xs ++ y ∷ []) ≡ count_by p xs + 1
count-push_yes p xs y e = sum_by_push (λ x. if p x then 1 else 0) xs y ∙ rw e refl

pub count-push_no : (p : ℕ → Bool) (xs : List ℕ) (y : ℕ) → p y ≡ false → count_by p (xs ++ y ∷ []) ≡ count_by p xs
count-push_no p xs y e =
    let more = sum_by_push (λ x. if p x then 1 else 0) xs y in
    let none : count_by p xs + 0 ≡ count_by p xs = omega arith in
    more ∙ rw e none

-- where the last byte does not pass, the run is empty
all-last : (p : ℕ → Bool) (x : ℕ) (xs : List ℕ) → p (last_of (x ∷ xs)) ≡ false → list_all p (x ∷ xs) ≡ false
all-last p x [] e = rw e refl
all-last p x (z ∷ xs) e = and_right (p x) (list_all p (z ∷ xs)) (all-last p z xs e)

pub run-last : (p : ℕ → Bool) (xs : List ℕ) → p (last_of xs) ≡ false → run p xs ≡ []
run-last p [] e = refl
run-last p (x ∷ []) e = rw e refl
run-last p (x ∷ z ∷ xs) e = rw (all-last p x (z ∷ xs) e) (run-last p (z ∷ xs) e)
