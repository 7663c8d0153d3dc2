-- The place that a search for a byte finds is the first that `position` tells.
use Rattle.std.proofs.Common.{◌≡◌, ℕ, Bool, true, false, Option, None, Some, List, length, refl, arith}
use Rattle.std.specs.List.{position, position_or_len}
use Rattle.std.proofs.lemmas.Bool.Decides.{nat_tests}
use Rattle.std.proofs.lemmas.List.Sums.{position_or_len_is}
use Rattle.memchr.specs.Find.{IsFirstByte}

no_pass : (b : Bool) → ¬ (b ≡ true) → b ≡ false
no_pass true h = absurd (h refl)
no_pass false h = refl

pub first_byte : (test : ℕ → Bool) (bytes : List ℕ) (found : Option ℕ) → IsFirstByte test bytes found → found ≡ position test bytes
first_byte test bytes None nowhere =
    let all : position_or_len test bytes ≡ length bytes =
    position_or_len_is test bytes (length bytes) 0 (omega arith) (λ k lt. no_pass _ (nowhere k (omega arith) lt)) (λ less. absurd (omega arith)) in
    rw all (grind (arith, nat_tests))
first_byte test bytes (Some at) h =
    let within = h.0.high in
    let here : position_or_len test bytes ≡ at =
    position_or_len_is test bytes at 0 (omega arith) (λ k lt. no_pass _ (h.0.before k (omega arith) lt)) (λ _. h.1) in
    rw here (grind (arith, nat_tests))
