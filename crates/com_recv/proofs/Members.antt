-- What stands in a list.
use Rattle.std.proofs.Common.{◌≡◌, ℕ, ◌+◌, ◌≤◌, ◌<◌, Bool, true, zero, suc, List, [], ◌∷◌, ◌++◌, Some, None, refl, sym, ap, ◌∙◌, inl, inr, arith}
use Rattle.std.specs.Prelude.{◌⊎◌, map}
use Rattle.std.specs.List.{filter, find, list_any, range_with_len}
use Rattle.std.proofs.lemmas.Bool.{cases_Bool, cases_eq, false≢true, or_left, or_right}
use Rattle.std.proofs.lemmas.Option.{none-some, same_Some}

-- the list has this element
abbrev pub Among : {X : Type 0} → X → List X → Type 0
Among x [] = ⊥
Among x (y ∷ ys) = (x ≡ y) ⊎ Among x ys

-- what stands in two lists, one behind the other, stands in one of them
pub among_cases : {X : Type 0} (x : X) (xs ys : List X) → Among x (xs ++ ys) → Among x xs ⊎ Among x ys
among_cases {X} x [] ys h = inr h
among_cases {X} x (y ∷ xs) ys (inl e) = inl (inl e)
among_cases {X} x (y ∷ xs) ys (inr h) = elim (among_cases x xs ys h) [ inl front ↦ inl (inr front) | inr behind ↦ inr behind ]

-- what passes a test is still there
pub among_filter : {X : Type 0} (p : X → Bool) (x : X) (xs : List X) → p x ≡ true → Among x xs → Among x (filter p xs)
among_filter {X} p x [] passes h = absurd h
among_filter {X} p x (y ∷ xs) passes (inl e) = let here : p y ≡ true = rw e at passes in rw here (inl e)
among_filter {X} p x (y ∷ xs) passes (inr h) = elim (cases_Bool (p y)) [
  | inl stays ↦ rw stays (inr (among_filter p x xs passes h))
  | inr goes ↦ rw goes (among_filter p x xs passes h)
]

-- what a test leaves was there, and passes
pub filter_among : {X : Type 0} (p : X → Bool) (x : X) (xs : List X) → Among x (filter p xs) → Among x xs × (p x ≡ true)
filter_among {X} p x [] h = absurd h
filter_among {X} p x (y ∷ xs) h = elim (cases_Bool (p y)) [
  | inl stays ↦
      let left : (x ≡ y) ⊎ Among x (filter p xs) = rw stays at h in
      elim left [ inl e ↦ (inl e, ap p e ∙ stays) | inr behind ↦ (inr (filter_among p x xs behind).0, (filter_among p x xs behind).1) ]
  | inr goes ↦
      let behind : Among x (filter p xs) = rw goes at h in
      (inr (filter_among p x xs behind).0, (filter_among p x xs behind).1)
]

-- where some element passes, one that stands there does
pub any_among : {X : Type 0} (p : X → Bool) (xs : List X) → list_any p xs ≡ true → (x : X) × Among x xs × (p x ≡ true)
any_among {X} p [] h = absurd (false≢true h)
any_among {X} p (y ∷ xs) h = elim (cases_Bool (p y)) [
  | inl here ↦ (y, inl refl, here)
  | inr other ↦
      let behind : list_any p xs ≡ true = rw other at h in
      let found = any_among p xs behind in
      (found.0, inr found.1, found.2)
]

-- where an element that stands there passes, some element does
pub among_any : {X : Type 0} (p : X → Bool) (x : X) (xs : List X) → Among x xs → p x ≡ true → list_any p xs ≡ true
among_any {X} p x [] h passes = absurd h
among_any {X} p x (y ∷ xs) (inl e) passes = or_left (p y) (list_any p xs) (ap p (sym e) ∙ passes)
among_any {X} p x (y ∷ xs) (inr h) passes = or_right (p y) (list_any p xs) (among_any p x xs h passes)

-- what is found is there, and passes
pub find_among : {X : Type 0} (p : X → Bool) (xs : List X) (x : X) → find p xs ≡ Some x → Among x xs × (p x ≡ true)
find_among {X} p [] x h = absurd (none-some x h)
find_among {X} p (y ∷ xs) x h = elim (cases_Bool (p y)) [
  | inl here ↦
      let e : y ≡ x = same_Some y x (rw here at h) in
      (inl (sym e), ap p (sym e) ∙ here)
  | inr other ↦
      let behind : find p xs ≡ Some x = rw other at h in
      (inr (find_among p xs x behind).0, (find_among p xs x behind).1)
]

-- where nothing is found, nothing passes
pub none_among : {X : Type 0} (p : X → Bool) (xs : List X) (x : X) → find p xs ≡ None → Among x xs → p x ≡ true → ⊥
none_among {X} p [] x h among passes = among
none_among {X} p (y ∷ xs) x h among passes = elim (cases_Bool (p y)) [
  | inl here ↦ none-some y (sym (rw here at h))
  | inr other ↦
      let behind : find p xs ≡ None = rw other at h in
      elim among [
        | inl e ↦ false≢true (sym other ∙ (ap p (sym e) ∙ passes))
        | inr there ↦ none_among p xs x behind there passes
      ]
]

-- tests that agree on what stands in a list leave the same of it
pub filter_alike : {X : Type 0} (p q : X → Bool) (xs : List X) → ((x : X) → Among x xs → p x ≡ q x) → filter p xs ≡ filter q xs
filter_alike {X} p q [] h = refl
filter_alike {X} p q (y ∷ xs) h =
    let same : p y ≡ q y = h y (inl refl) in
    let behind : filter p xs ≡ filter q xs = filter_alike p q xs (λ x there. h x (inr there)) in
    rw (same, behind)

-- what a map gives comes of something
pub map_among : {X Y : Type 0} (f : X → Y) (y : Y) (xs : List X) → Among y (map f xs) → (x : X) × Among x xs × (f x ≡ y)
map_among {X} {Y} f y [] h = absurd h
map_among {X} {Y} f y (x ∷ xs) (inl e) = (x, inl refl, sym e)
map_among {X} {Y} f y (x ∷ xs) (inr h) = let found = map_among f y xs h in (found.0, inr found.1, found.2)

-- what stands in a list is mapped with it
pub among_map : {X Y : Type 0} (f : X → Y) (x : X) (xs : List X) → Among x xs → Among (f x) (map f xs)
among_map {X} {Y} f x [] h = absurd h
among_map {X} {Y} f x (y ∷ xs) (inl e) = inl (ap f e)
among_map {X} {Y} f x (y ∷ xs) (inr h) = inr (among_map f x xs h)

-- a range has the numbers between its ends, and no others
pub among_range : (from count n : ℕ) → from ≤ n → n < from + count → Among n (range_with_len from count)
among_range from zero n least most = absurd (omega arith)
among_range from (suc count) n least most = elim (cases_eq n from) [
  | inl e ↦ inl e
  | inr ne ↦ inr (among_range (from + 1) count n (omega arith) (omega arith))
]

pub range_among : (from count n : ℕ) → Among n (range_with_len from count) → (from ≤ n) × (n < from + count)
range_among from zero n h = absurd h
range_among from (suc count) n (inl e) = (omega arith, omega arith)
range_among from (suc count) n (inr h) = let behind = range_among (from + 1) count n h in (omega (arith, behind), omega (arith, behind))

-- a number stands in a list of numbers, or not
pub among_or_not : (n : ℕ) (numbers : List ℕ) → Among n numbers ⊎ (Among n numbers → ⊥)
among_or_not n [] = inr (λ h. h)
among_or_not n (m ∷ numbers) = elim (cases_eq n m) [
  | inl e ↦ inl (inl e)
  | inr ne ↦ elim (among_or_not n numbers) [
    | inl behind ↦ inl (inr behind)
    | inr absent ↦ inr (λ h. elim h [ inl e ↦ ne e | inr behind ↦ absent behind ])
  ]
]
