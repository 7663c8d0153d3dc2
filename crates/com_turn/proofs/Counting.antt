-- Who is active, and how many are, when a toggle is added.
use Rattle.std.proofs.Common.{◌≡◌, ◌≢◌, ℕ, zero, suc, ◌+◌, ◌<◌, ◌≤◌, Bool, cond, List, [], ◌∷◌, ◌++◌, count_by, false, sym, refl, ap, ◌∙◌, arith, eqb, eq-eqb, ne_eqb}
use mathlib.Core.Logic.{dite}
use native.Mathlib.Decide.{ℕ_discrete}
use Rattle.std.specs.List.{range_with_len}
use Rattle.std.proofs.lemmas.List.Sums.{fold-append, sum_by-cons}
use Rattle.com_turn.specs.declared.view.Toggle.{Toggle}
use Rattle.com_turn.specs.Toggles.{toggle_of, is_active, active_count}

is_active-append : (party : ℕ) (toggles : List Toggle) (toggle : Toggle) → is_active party (toggles ++ toggle ∷ []) ≡ cond (eqb toggle.number party) toggle.active (is_active party toggles)
is_active-append party toggles toggle = fold-append (λ (active : Bool) (m : Toggle). cond (eqb m.number party) m.active active) false toggles (toggle ∷ [])

pub is_active-own : (party : ℕ) (toggles : List Toggle) (active : Bool) → is_active party (toggles ++ toggle_of party active ∷ []) ≡ active
is_active-own party toggles active =
    is_active-append party toggles (toggle_of party active) ∙ ap (λ (b : Bool). cond b active (is_active party toggles)) (eq-eqb party party refl)

pub is_active-other : (party other : ℕ) (toggles : List Toggle) (active : Bool) → other ≢ party → is_active party (toggles ++ toggle_of other active ∷ []) ≡ is_active party toggles
is_active-other party other toggles active ne =
    is_active-append party toggles (toggle_of other active) ∙ ap (λ (b : Bool). cond b active (is_active party toggles)) (ne_eqb other party ne)

abbrev bit : Bool → ℕ
bit b = cond b 1 0

-- two tests that agree on a range count as many in it
count_by-same : (f g : ℕ → Bool) (n from : ℕ) → ((k : ℕ) → from ≤ k → f k ≡ g k) → count_by f (range_with_len from n) ≡ count_by g (range_with_len from n)
count_by-same f g zero from same = refl
count_by-same f g (suc n) from same =
    let a = sum_by-cons (λ k. bit (f k)) from (range_with_len (from + 1) n) in
    let b = sum_by-cons (λ k. bit (g k)) from (range_with_len (from + 1) n) in
    let head : bit (f from) ≡ bit (g from) = ap bit (same from (omega arith)) in
    let rest = count_by-same f g n (from + 1) (λ k le. same k (omega (arith, le))) in
    omega (arith, a, b, head, rest)

-- and where they differ at one number of it
count_by-change : (f g : ℕ → Bool) (at n from : ℕ) → from ≤ at → at < from + n → ((k : ℕ) → k ≢ at → f k ≡ g k)
    → count_by g (range_with_len from n) + bit (f at) ≡ count_by f (range_with_len from n) + bit (g at)
count_by-change f g at zero from le lt same = absurd (omega (arith, le, lt))
count_by-change f g at (suc n) from le lt same =
    let a = sum_by-cons (λ k. bit (f k)) from (range_with_len (from + 1) n) in
    let b = sum_by-cons (λ k. bit (g k)) from (range_with_len (from + 1) n) in
    dite (ℕ_discrete at from)
    (λ here.
    let rest = count_by-same f g n (from + 1) (λ k far. same k (λ e. omega (arith, far, e, here))) in
    let x : bit (f at) ≡ bit (f from) = ap (λ k. bit (f k)) here in
    let y : bit (g at) ≡ bit (g from) = ap (λ k. bit (g k)) here in
    omega (arith, a, b, rest, x, y))
    (λ further.
    let head : bit (f from) ≡ bit (g from) = ap bit (same from (λ e. further (sym e))) in
    let ne : at ≢ from = further in
    let rest = count_by-change f g at n (from + 1) (omega (arith, le, ne)) (omega (arith, lt)) same in
    omega (arith, a, b, head, rest))

-- one party became active or inactive
pub active_count-change : (parties party : ℕ) (toggles : List Toggle) (active : Bool) → party < parties
    → active_count parties (toggles ++ toggle_of party active ∷ []) + cond (is_active party toggles) 1 0 ≡ active_count parties toggles + cond active 1 0
active_count-change parties party toggles active lt =
    let after : List Toggle = toggles ++ toggle_of party active ∷ [] in
    let change = count_by-change (λ k. is_active k toggles) (λ k. is_active k after) party parties 0 (omega arith) (omega (arith, lt)) (λ k ne. sym (is_active-other k party toggles active (λ e. ne (sym e)))) in
    change ∙ ap (λ (b : Bool). active_count parties toggles + cond b 1 0) (is_active-own party toggles active)
