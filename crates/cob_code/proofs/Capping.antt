-- Numbers that are counted up to a cap.
use Rattle.std.proofs.Common.{◌≡◌, ℕ, ◌+◌, ◌*◌, ◌<◌, List, [], ◌∷◌, drop, length, get_or, sym, ap, ◌∙◌, arith}
use Rattle.std.specs.Prelude.{min}
use Rattle.std.specs.Char.{digit_value}
use Rattle.std.specs.Str.Parse.{digits_value_after}
use Rattle.std.proofs.lemmas.List.{drop_more}

same_step : (cap m n d : ℕ) → min m cap ≡ min n cap → min (m * 10 + d) cap ≡ min (n * 10 + d) cap
same_step cap m n d e = omega (arith, e)

-- numbers that are one up to the cap stay so
same_after : (cap : ℕ) (digits : List ℕ) (m n : ℕ) → min m cap ≡ min n cap → min (digits_value_after 10 m digits) cap ≡ min (digits_value_after 10 n digits) cap
same_after cap [] m n e = e
same_after cap (c ∷ cs) m n e = same_after cap cs (m * 10 + digit_value c) (n * 10 + digit_value c) (same_step cap m n (digit_value c) e)

pub next_digit : (cap : ℕ) (digits : List ℕ) (at value next c total : ℕ) → at < length digits → c ≡ get_or digits at 0 → next ≡ min (value * 10 + digit_value c) cap
    → min (digits_value_after 10 value (drop at digits)) cap ≡ total → min (digits_value_after 10 next (drop (at + 1) digits)) cap ≡ total
next_digit cap digits at value next c total lt is e h =
    let capped : min next cap ≡ min (value * 10 + digit_value c) cap = omega (arith, e) in
    same_after cap (drop (at + 1) digits) next (value * 10 + digit_value c) capped
    ∙ ap (λ d. min (digits_value_after 10 (value * 10 + digit_value d) (drop (at + 1) digits)) cap) is
    ∙ ap (λ ds. min (digits_value_after 10 value ds) cap) (sym (drop_more digits at 0 lt)) ∙ h
