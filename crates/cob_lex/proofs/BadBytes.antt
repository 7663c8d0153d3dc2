-- The first byte that is no character of a text.
use Rattle.std.proofs.Common.{◌≡◌, ℕ, zero, suc, ◌+◌, ◌<◌, Bool, true, false, not, cond, List, [], ◌∷◌, length, take, Some, None, refl, ap, ◌∙◌, arith}
use Rattle.std.specs.List.{position_from}
use Rattle.std.proofs.lemmas.Bool.{and_parts}
use Rattle.com_text.specs.Text.{IsText, IsFirstBadByte, is_text, is_text_byte}
use Rattle.cob_lex.specs.Characters.{is_no_text_byte}

pub sound_bytes : (bytes : List ℕ) (at : ℕ) → IsText bytes → position_from is_no_text_byte at bytes ≡ None
sound_bytes [] at h = refl
sound_bytes (x ∷ xs) at h =
    let (here, rest) = and_parts (is_text_byte x) (is_text xs) h in
    ap (λ b. cond (not b) (Some at) (position_from is_no_text_byte (at + 1) xs)) here ∙ sound_bytes xs (at + 1) rest

no_true : (b : Bool) → (b ≡ true → ⊥) → not b ≡ true
no_true true h = absurd (h refl)
no_true false h = refl

pub bad_byte : (bytes : List ℕ) (at bad : ℕ) → IsFirstBadByte bytes bad → position_from is_no_text_byte at bytes ≡ Some (at + bad)
bad_byte [] at bad h = let within : bad < 0 = h.within in absurd (omega arith)
bad_byte (x ∷ xs) at zero h =
    let e : at ≡ at + 0 = omega arith in
    ap (λ b. cond b (Some at) (position_from is_no_text_byte (at + 1) xs)) (no_true (is_text_byte x) h.bad) ∙ ap Some e
bad_byte (x ∷ xs) at (suc bad) h =
    let (here, rest) = and_parts (is_text_byte x) (is_text (take bad xs)) h.before in
    let within : suc bad < suc (length xs) = h.within in
    let inside : bad < length xs = omega arith in
    let first : IsFirstBadByte xs bad = record { within = inside; bad = h.bad; before = rest } in
    let e : at + 1 + bad ≡ at + suc bad = omega arith in
    ap (λ b. cond (not b) (Some at) (position_from is_no_text_byte (at + 1) xs)) here ∙ bad_byte xs (at + 1) bad first ∙ ap Some e
