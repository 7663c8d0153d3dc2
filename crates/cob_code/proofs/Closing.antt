-- Passing on over one number after another.
use Rattle.std.proofs.Common.{◌≡◌, ℕ, ◌+◌, ◌<◌, ◌⊎◌, inl, inr, Bool, true, false, ◌||◌, ◌&&◌, List, refl, sym, subst, ◌∙◌, arith}
use Rattle.cob_code.specs.inner.Sets.{Chain, over, leads}

-- what led to a number before, or over the number that is passed over
either : (a b c : Bool) → (a || (b && c)) ≡ true → (a ≡ true) ⊎ ((b ≡ true) × (c ≡ true))
either true b c h = inl refl
either false true true h = inr (refl, refl)
either false true false h = cc
either false false c h = cc

kept_or : (a b : Bool) → a ≡ true → (a || b) ≡ true
kept_or true b h = refl
kept_or false b h = cc

made_or : (a b c : Bool) → b ≡ true → c ≡ true → (a || (b && c)) ≡ true
made_or true b c h g = refl
made_or false true true h g = refl
made_or false true false h g = cc
made_or false false c h g = cc

-- the tables before and after passing over a number
module _ (old new : ℕ → ℕ → Bool) (at : ℕ) (each : (to from : ℕ) → new to from ≡ (old to from || (old to at && old at from))) where
  keeps : (to from : ℕ) → old to from ≡ true → new to from ≡ true
  keeps to from h = each to from ∙ kept_or _ _ h

  makes : (to from : ℕ) → old to at ≡ true → old at from ≡ true → new to from ≡ true
  makes to from h g = each to from ∙ made_or _ _ _ h g

  apart : (to from : ℕ) → new to from ≡ true → (old to from ≡ true) ⊎ ((old to at ≡ true) × (old at from ≡ true))
  apart to from h = either (old to from) (old to at) (old at from) (sym (each to from) ∙ h)

  -- what is at the number itself stays
  to_at : (to : ℕ) → new to at ≡ true → old to at ≡ true
  to_at to h = elim (apart to at h) [ inl g ↦ g | inr g ↦ g.0 ]

  at_from : (from : ℕ) → new at from ≡ true → old at from ≡ true
  at_from from h = elim (apart at from h) [ inl g ↦ g | inr g ↦ g.1 ]

  module _ (before : (between : ℕ) → between < at → (to from : ℕ) → old to between ≡ true → old between from ≡ true → old to from ≡ true) where
    below : (between : ℕ) → between < at → (to from : ℕ) → new to between ≡ true → new between from ≡ true → new to from ≡ true
    below between lt to from h g =
        elim (apart to between h) [
          | inl a ↦ elim (apart between from g) [
            | inl b ↦ keeps to from (before between lt to from a b)
            | inr b ↦ makes to from (before between lt to at a b.0) b.1
          ]
          | inr a ↦ elim (apart between from g) [
            | inl b ↦ makes to from a.0 (before between lt at from a.1 b)
            | inr b ↦ makes to from a.0 b.1
          ]
        ]

    here : (to from : ℕ) → new to at ≡ true → new at from ≡ true → new to from ≡ true
    here to from h g = makes to from (to_at to h) (at_from from g)

pub stays : (first old new : List (List Bool)) (at : ℕ) → ((to from : ℕ) → leads new to from ≡ (leads old to from || (leads old to at && leads old at from)))
    → ((to from : ℕ) → leads first to from ≡ true → leads old to from ≡ true) → (to from : ℕ) → leads first to from ≡ true → leads new to from ≡ true
stays first old new at each kept to from h = keeps (leads old) (leads new) at each to from (kept to from h)

pub closes : (old new : List (List Bool)) (at : ℕ) → ((to from : ℕ) → leads new to from ≡ (leads old to from || (leads old to at && leads old at from)))
    → ((between : ℕ) → between < at → (to from : ℕ) → leads old to between ≡ true → leads old between from ≡ true → leads old to from ≡ true)
    → (between : ℕ) → between < at + 1 → (to from : ℕ) → leads new to between ≡ true → leads new between from ≡ true → leads new to from ≡ true
closes old new at each before between lt = by (split between at lt)
  where
    split : (m n : ℕ) → m < n + 1 → (m < n) ⊎ (m ≡ n)
    split m n h = grind arith

    by : (between < at) ⊎ (between ≡ at) → (to from : ℕ) → leads new to between ≡ true → leads new between from ≡ true → leads new to from ≡ true
    by (inl lt) = below (leads old) (leads new) at each before between lt
    by (inr e) = λ to from h g. here (leads old) (leads new) at each before to from (let P : ℕ → Type 0 = λ n. leads new to n ≡ true in subst P e h) (let P : ℕ → Type 0 = λ n. leads new n from ≡ true in subst P e g)

pub sounds : (first old new : List (List Bool)) (at : ℕ) → ((to from : ℕ) → leads new to from ≡ (leads old to from || (leads old to at && leads old at from)))
    → ((to from : ℕ) → leads old to from ≡ true → Chain first to from) → (to from : ℕ) → leads new to from ≡ true → Chain first to from
sounds first old new at each sound to from h =
    elim (apart (leads old) (leads new) at each to from h) [ inl g ↦ sound to from g | inr g ↦ over (sound to at g.0) (sound at from g.1) ]
