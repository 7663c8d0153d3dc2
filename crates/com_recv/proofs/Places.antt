-- The lists of what waits and of what is held.
use Rattle.std.proofs.Common.{◌≡◌, ◌≢◌, ℕ, zero, suc, ◌+◌, ◌-◌, ◌<◌, ◌≤◌, nat_lt, Bool, true, false, List, [], ◌∷◌, ◌++◌, length, get_or, set, Some, None, refl, sym, ap, ◌∙◌, arith, inl, inr}
use Rattle.std.specs.Prelude.{Option, replicate, slice_get, option_and_then, option_map, is_some, ◌==◌}
use Rattle.std.specs.Option.{option_or}
use mathlib.Core.Bool.{cond}
use Rattle.std.specs.List.{find, position, position_or_len, list_any, range_with_len}
use Rattle.std.proofs.lemmas.Bool.{cases_Bool, false≢true}
use Rattle.std.proofs.lemmas.Bool.Decides.{nat_tests}
use Rattle.std.proofs.lemmas.Option.{none-some, same_Some, slice_get_past, slice_get-get_or, get_or_from_slice_get}
use Rattle.std.proofs.lemmas.List.{length-set, get_or-set_same, get_or-set_other}
use Rattle.std.proofs.lemmas.List.Folds.{find_at, find-append}
use Rattle.com_recv.specs.declared.lists.Waiting.{Waiting}
use Rattle.com_recv.specs.declared.lists.Held.{Held}
use Rattle.com_recv.specs.Incoming.{first_number, is_on, is_held_on, held_on}

-- what is found is what stands at the place of the first
pub found_at_place : {X : Type 0} (p : X → Bool) → (xs : List X) → option_and_then (slice_get xs) (position p xs) ≡ find p xs
found_at_place p xs = elim (cases_Bool (nat_lt (position_or_len p xs) (length xs))) [
  | inl within ↦ rw within (sym (find_at p xs))
  | inr past ↦
      let beyond : length xs ≤ position_or_len p xs = grind (arith, nat_tests, past) in
      rw past (sym (slice_get_past xs (position_or_len p xs) beyond) ∙ sym (find_at p xs))
]

-- some element passes where one is found
pub any_found : {X : Type 0} (p : X → Bool) → (xs : List X) → list_any p xs ≡ is_some (find p xs)
any_found p [] = refl
any_found p (x ∷ xs) = elim (cases_Bool (p x)) [
  | inl passes ↦ rw passes refl
  | inr fails ↦ rw fails (any_found p xs)
]

-- what is held, searched leaf by leaf
abbrev pub left_from : List Held → ℕ → ℕ → ℕ → Option ℕ
left_from held unit leaf past = find (λ l. list_any (is_held_on unit l) held) (range_with_len leaf (past - leaf))

one_more : (leaf past : ℕ) → leaf < past → range_with_len leaf (past - leaf) ≡ leaf ∷ range_with_len (leaf + 1) (past - (leaf + 1))
one_more leaf past within =
    let same : past - leaf ≡ suc (past - (leaf + 1)) = omega (arith, within) in
    rw same refl

pub within_some : {X : Type 0} → (xs : List X) (i : ℕ) → i < length xs → is_some (slice_get xs i) ≡ true
within_some [] i within = absurd (omega (arith, within))
within_some (x ∷ xs) zero within = refl
within_some (x ∷ xs) (suc i) within = within_some xs i (omega (arith, within))

-- where there is a place, an element passes
any_at_place : {X : Type 0} (p : X → Bool) → (xs : List X) (at : ℕ) → position p xs ≡ Some at → list_any p xs ≡ true
any_at_place p xs at is = elim (cases_Bool (nat_lt (position_or_len p xs) (length xs))) [
  | inl within ↦
      let inside : position_or_len p xs < length xs = grind (arith, nat_tests, within) in
      any_found p xs ∙ (ap is_some (find_at p xs) ∙ within_some xs (position_or_len p xs) inside)
  | inr past ↦ absurd (none-some at (rw past at is))
]

-- the place that is found
pub place_is : {X : Type 0} (p : X → Bool) → (xs : List X) (at : ℕ) → position p xs ≡ Some at → (position_or_len p xs ≡ at) × (at < length xs)
place_is p xs at is = elim (cases_Bool (nat_lt (position_or_len p xs) (length xs))) [
  | inl within ↦
      let inside : position_or_len p xs < length xs = grind (arith, nat_tests, within) in
      let same : position_or_len p xs ≡ at = same_Some _ _ (rw within at is) in
      (same, omega (arith, inside, same))
  | inr past ↦ absurd (none-some at (rw past at is))
]

pub place_within : {X : Type 0} (p : X → Bool) → (xs : List X) (at : ℕ) → position p xs ≡ Some at → at < length xs
place_within p xs at is = (place_is p xs at is).1

pub held_here : (held : List Held) (unit leaf past at : ℕ) → leaf < past → position (is_held_on unit leaf) held ≡ Some at
    → (left_from held unit leaf past ≡ Some leaf) × (held_on held unit leaf ≡ slice_get held at)
held_here held unit leaf past at within is =
    let found : find (is_held_on unit leaf) held ≡ slice_get held at = sym (found_at_place (is_held_on unit leaf) held) ∙ rw is refl in
    (rw (one_more leaf past within, any_at_place (is_held_on unit leaf) held at is) refl, found)

pub not_held : (held : List Held) (unit leaf past : ℕ) → leaf < past → position (is_held_on unit leaf) held ≡ None → left_from held unit leaf past ≡ left_from held unit (leaf + 1) past
not_held held unit leaf past within is =
    let none : find (is_held_on unit leaf) held ≡ None = sym (found_at_place (is_held_on unit leaf) held) ∙ rw is refl in
    let any : list_any (is_held_on unit leaf) held ≡ false = any_found (is_held_on unit leaf) held ∙ rw none refl in
    rw (one_more leaf past within, any) refl

pub held_nowhere : (held : List Held) (unit leaf past : ℕ) → past ≤ leaf → left_from held unit leaf past ≡ None
held_nowhere held unit leaf past beyond =
    let none : past - leaf ≡ 0 = omega (arith, beyond) in
    rw none refl

mapped : (f : Waiting → ℕ) (o p : Option Waiting) → option_map f (option_or o p) ≡ option_or (option_map f o) (option_map f p)
mapped f None p = refl
mapped f (Some x) p = refl

twice : (o : Option Waiting) → option_map (λ message. message.arrival) (option_map (λ w. w.message) o) ≡ option_map (λ w. w.message.arrival) o
twice None = refl
twice (Some w) = refl

pub number_of_first : (waiting : List Waiting) (leaf : ℕ) → first_number waiting leaf ≡ option_map (λ w. w.message.arrival) (find (is_on leaf) waiting)
number_of_first waiting leaf = twice (find (is_on leaf) waiting)

-- the first message on a leaf, when one more has come
pub first_number_more : (waiting : List Waiting) (w : Waiting) (leaf : ℕ) → first_number (waiting ++ w ∷ []) leaf ≡ option_or (first_number waiting leaf) (first_number (w ∷ []) leaf)
first_number_more waiting w leaf =
    number_of_first (waiting ++ w ∷ []) leaf ∙ (ap (option_map (λ m. m.message.arrival)) (find-append (is_on leaf) waiting (w ∷ []))
    ∙ (mapped (λ m. m.message.arrival) (find (is_on leaf) waiting) (find (is_on leaf) (w ∷ []))
    ∙ rw (number_of_first waiting leaf, number_of_first (w ∷ []) leaf) refl))

pub or_first : (o p : Option ℕ) → is_some o ≡ true → option_or o p ≡ o
or_first None p some = absurd (false≢true some)
or_first (Some x) p some = refl

or_none : (o : Option ℕ) → option_or o None ≡ o
or_none None = refl
or_none (Some x) = refl

-- the numbers of the first messages, leaf by leaf
abbrev pub AreHeads : List (Option ℕ) → List Waiting → Type 0
AreHeads heads waiting = (leaf : ℕ) → leaf < 64 → slice_get heads leaf ≡ Some (first_number waiting leaf)

-- a message on another leaf changes nothing
pub elsewhere : (waiting : List Waiting) (w : Waiting) (leaf : ℕ) → (w.leaf.number == leaf) ≡ false → first_number (waiting ++ w ∷ []) leaf ≡ first_number waiting leaf
elsewhere waiting w leaf other =
    let none : first_number (w ∷ []) leaf ≡ None = rw other refl in
    first_number_more waiting w leaf ∙ (rw none refl ∙ or_none (first_number waiting leaf))

same_leaf : (w : Waiting) (leaf : ℕ) → (w.leaf.number == leaf) ≡ true → w.leaf.number ≡ leaf
same_leaf w leaf h = grind (arith, nat_tests, h)

head_here : (heads : List (Option ℕ)) (waiting : List Waiting) (leaf : ℕ) → AreHeads heads waiting → leaf < 64 → get_or heads leaf None ≡ first_number waiting leaf
head_here heads waiting leaf h small = get_or_from_slice_get heads leaf (first_number waiting leaf) None (h leaf small)

-- the message is the first on its leaf where there was none
pub first_come : (heads : List (Option ℕ)) (waiting : List Waiting) (w : Waiting) → length heads ≡ 64 → w.leaf.number < 64 → AreHeads heads waiting → get_or heads w.leaf.number None ≡ None
    → AreHeads (set heads w.leaf.number (Some w.message.arrival)) (waiting ++ w ∷ [])
first_come heads waiting w long within h none = λ leaf small.
    let written = set heads w.leaf.number (Some w.message.arrival) in
    let there : slice_get written leaf ≡ Some (get_or written leaf None) = slice_get-get_or written leaf None (omega (arith, small, length-set heads w.leaf.number (Some w.message.arrival), long)) in
    elim (cases_Bool (w.leaf.number == leaf)) [
      | inl same ↦
          let is = same_leaf w leaf same in
          let here : get_or written leaf None ≡ Some w.message.arrival = rw (← is) (get_or-set_same heads w.leaf.number (Some w.message.arrival) None (omega (arith, within, long))) in
          let before : first_number waiting leaf ≡ None = sym (head_here heads waiting leaf h small) ∙ rw is at none in
          let one : first_number (w ∷ []) leaf ≡ Some w.message.arrival = rw same refl in
          there ∙ ap Some (here ∙ sym (first_number_more waiting w leaf ∙ rw (before, one) refl))
      | inr other ↦
          let apart : leaf ≢ w.leaf.number = grind (arith, nat_tests, other) in
          let kept : get_or written leaf None ≡ get_or heads leaf None = get_or-set_other heads w.leaf.number leaf (Some w.message.arrival) None apart in
          there ∙ ap Some (kept ∙ (head_here heads waiting leaf h small ∙ sym (elsewhere waiting w leaf other)))
    ]

-- it is not where there was one
pub later_come : (heads : List (Option ℕ)) (waiting : List Waiting) (w : Waiting) → AreHeads heads waiting → w.leaf.number < 64 → is_some (get_or heads w.leaf.number None) ≡ true → AreHeads heads (waiting ++ w ∷ [])
later_come heads waiting w h within some = λ leaf small. elim (cases_Bool (w.leaf.number == leaf)) [
  | inl same ↦
      let is = same_leaf w leaf same in
      let found : is_some (first_number waiting leaf) ≡ true = ap is_some (sym (head_here heads waiting leaf h small)) ∙ rw is at some in
      h leaf small ∙ ap Some (sym (first_number_more waiting w leaf ∙ or_first (first_number waiting leaf) (first_number (w ∷ []) leaf) found))
  | inr other ↦ h leaf small ∙ ap Some (sym (elsewhere waiting w leaf other))
]

no_head : (n leaf : ℕ) → leaf < n → slice_get (replicate n None) leaf ≡ Some (first_number [] leaf)
no_head zero leaf within = absurd (omega (arith, within))
no_head (suc n) zero within = refl
no_head (suc n) (suc leaf) within = no_head n leaf (omega (arith, within))

-- at first no message is on any leaf
pub no_heads : AreHeads (replicate 64 None) []
no_heads = λ leaf small. no_head 64 leaf small

pub no_number : (o : Option ℕ) → is_some o ≡ false → o ≡ None
no_number None none = refl
no_number (Some x) none = absurd (false≢true (sym none))

-- what holds of a list, and of it with one more at the end, holds after a push that may have been
-- refused
pub pushed : {X : Type 0} (P : List X → Type 0) → (xs ys : List X) (x : X) (done : Bool) → ys ≡ cond done (xs ++ x ∷ []) xs → P xs → P (xs ++ x ∷ []) → P ys
pushed P xs ys x true is before after = rw is after
pushed P xs ys x false is before after = rw is before
