-- The message that waits first on a leaf, and those that wait after it.
use Rattle.std.proofs.Common.{◌≡◌, ◌≢◌, ℕ, false, List, [], ◌∷◌, ◌++◌, Some, None, Option, map, refl, sym, ap, ◌∙◌, inl, inr}
use Rattle.std.specs.Prelude.{◌⊎◌, ◌==◌, option_map}
use Rattle.std.specs.List.{filter, find}
use Rattle.std.proofs.lemmas.Bool.{cases_Bool, eqb-true, ne_eqb}
use Rattle.std.proofs.lemmas.Option.{none-some, same_Some}
use Rattle.com_msg.specs.declared.message.Message.{Message}
use Rattle.com_recv.specs.declared.lists.Waiting.{Waiting}
use Rattle.com_recv.specs.Incoming.{first_on, without_first}
use Rattle.com_recv.proofs.Members.{Among, among_cases, find_among}

-- no two wait with one number
abbrev pub AreApart : List Waiting → Type 0
AreApart [] = Unit {0}
AreApart (w ∷ waiting) = ((other : Waiting) → Among other waiting → w.message.arrival ≢ other.message.arrival) × AreApart waiting

-- the numbers that wait on a leaf, in order
abbrev pub waiting_on : ℕ → List Waiting → List ℕ
waiting_on leaf waiting = map (λ w. w.message.arrival) (filter (λ w. w.leaf.number == leaf) waiting)

-- the first on a leaf
abbrev pub IsFirst : ℕ → List Waiting → Waiting → Type 0
IsFirst leaf waiting w = find (λ (w : Waiting). w.leaf.number == leaf) waiting ≡ Some w

-- the first message is that of the first on the leaf
pub first_is : (waiting : List Waiting) (leaf : ℕ) (message : Message) → first_on waiting leaf ≡ Some message → (w : Waiting) × IsFirst leaf waiting w × (w.message ≡ message)
first_is waiting leaf message h = from (find (λ w. w.leaf.number == leaf) waiting) refl h
  where
    from : (o : Option Waiting) → find (λ (w : Waiting). w.leaf.number == leaf) waiting ≡ o → option_map (λ (w : Waiting). w.message) o ≡ Some message
        → (w : Waiting) × IsFirst leaf waiting w × (w.message ≡ message)
    from None found e = absurd (none-some message e)
    from (Some w) found e = (w, found, same_Some w.message message e)

-- what waits without the first, waits
pub without_among : (leaf : ℕ) (other : Waiting) (waiting : List Waiting) → Among other (without_first leaf waiting) → Among other waiting
without_among leaf other [] h = absurd h
without_among leaf other (w ∷ waiting) h = elim (cases_Bool (w.leaf.number == leaf)) [
  | inl here ↦ let behind : Among other waiting = rw here at h in inr behind
  | inr elsewhere ↦
      let there : (other ≡ w) ⊎ Among other (without_first leaf waiting) = rw elsewhere at h in
      elim there [ inl e ↦ inl e | inr behind ↦ inr (without_among leaf other waiting behind) ]
]

-- without the first, they have still different numbers
pub apart_without : (leaf : ℕ) (waiting : List Waiting) → AreApart waiting → AreApart (without_first leaf waiting)
apart_without leaf [] h = tt
apart_without leaf (w ∷ waiting) h = elim (cases_Bool (w.leaf.number == leaf)) [
  | inl here ↦ rw here h.1
  | inr elsewhere ↦ rw elsewhere (λ other there. h.0 other (without_among leaf other waiting there), apart_without leaf waiting h.1)
]

-- the first has a number of its own
pub apart_first : (leaf : ℕ) (waiting : List Waiting) (w other : Waiting) → AreApart waiting → IsFirst leaf waiting w → Among other (without_first leaf waiting)
    → w.message.arrival ≢ other.message.arrival
apart_first leaf [] w other h first there = absurd there
apart_first leaf (v ∷ waiting) w other h first there = elim (cases_Bool (v.leaf.number == leaf)) [
  | inl here ↦
      let same : v ≡ w = same_Some v w (rw here at first) in
      let behind : Among other waiting = rw here at there in
      λ e. h.0 other behind (ap (λ (w : Waiting). w.message.arrival) same ∙ e)
  | inr elsewhere ↦
      let later : IsFirst leaf waiting w = rw elsewhere at first in
      let among : (other ≡ v) ⊎ Among other (without_first leaf waiting) = rw elsewhere at there in
      elim among [
        | inl is_first ↦ λ e. h.0 w (find_among (λ (w : Waiting). w.leaf.number == leaf) waiting w later).0 (ap (λ (w : Waiting). w.message.arrival) (sym is_first) ∙ sym e)
        | inr behind ↦ apart_first leaf waiting w other h.1 later behind
      ]
]

-- and so with one more, of a new number
pub apart_push : (waiting : List Waiting) (w : Waiting) → AreApart waiting → ((other : Waiting) → Among other waiting → other.message.arrival ≢ w.message.arrival) → AreApart (waiting ++ w ∷ [])
apart_push [] w h new = (λ other there. absurd there, tt)
apart_push (v ∷ waiting) w h new = (
  λ other there. apart_last other there,
  apart_push waiting w h.1 (λ other there. new other (inr there)),
)
  where
    apart_last : (other : Waiting) → Among other (waiting ++ w ∷ []) → v.message.arrival ≢ other.message.arrival
    apart_last other there = elim (among_cases other waiting (w ∷ []) there) [
      | inl before ↦ h.0 other before
      | inr last ↦ elim last [ inl is_new ↦ λ e. new v (inl refl) (e ∙ ap (λ (w : Waiting). w.message.arrival) is_new) | inr none ↦ absurd none ]
    ]

-- the numbers on a leaf without the first of them
pub on_first : (leaf : ℕ) (waiting : List Waiting) (w : Waiting) → IsFirst leaf waiting w → waiting_on leaf waiting ≡ w.message.arrival ∷ waiting_on leaf (without_first leaf waiting)
on_first leaf [] w first = absurd (none-some w first)
on_first leaf (v ∷ waiting) w first = elim (cases_Bool (v.leaf.number == leaf)) [
  | inl here ↦
      let same : v ≡ w = same_Some v w (rw here at first) in
      rw here (ap (λ (w : Waiting). w.message.arrival ∷ waiting_on leaf waiting) same)
  | inr elsewhere ↦
      let later : IsFirst leaf waiting w = rw elsewhere at first in
      rw (elsewhere, elsewhere) (on_first leaf waiting w later)
]

-- those on another leaf stay
pub on_other : (leaf other : ℕ) (waiting : List Waiting) → other ≢ leaf → waiting_on other (without_first leaf waiting) ≡ waiting_on other waiting
on_other leaf other [] ne = refl
on_other leaf other (w ∷ waiting) ne = elim (cases_Bool (w.leaf.number == leaf)) [
  | inl here ↦
      let there : (w.leaf.number == other) ≡ false = ne_eqb w.leaf.number other (λ e. ne (sym e ∙ eqb-true w.leaf.number leaf here)) in
      rw (here, there) refl
  | inr elsewhere ↦ elim (cases_Bool (w.leaf.number == other)) [
    | inl there ↦ rw (elsewhere, there) (ap (λ rest. w.message.arrival ∷ rest) (on_other leaf other waiting ne))
    | inr gone ↦ rw (elsewhere, gone) (on_other leaf other waiting ne)
  ]
]
