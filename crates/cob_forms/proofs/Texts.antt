-- A part of a text is a text.
use Rattle.std.proofs.Common.{◌≡◌, ℕ, zero, suc, Bool, true, false, ◌&&◌, List, [], ◌∷◌, take, drop, refl}
use Rattle.std.specs.List.{list_all}
use Rattle.com_text.specs.Text.{IsText, is_text_byte}

both_true : (a b : Bool) → a ≡ true → b ≡ true → (a && b) ≡ true
both_true true true h k = refl
both_true true false h k = k
both_true false b h k = h

first_true : (a b : Bool) → (a && b) ≡ true → a ≡ true
first_true true b h = refl
first_true false b h = h

second_true : (a b : Bool) → (a && b) ≡ true → b ≡ true
second_true true b h = h
second_true false b h = cc

text_taken : (n : ℕ) (bytes : List ℕ) → IsText bytes → IsText (take n bytes)
text_taken zero bytes h = refl
text_taken (suc n) [] h = h
text_taken (suc n) (byte ∷ bytes) h =
    both_true (is_text_byte byte) (list_all is_text_byte (take n bytes)) (first_true (is_text_byte byte) (list_all is_text_byte bytes) h)
    (text_taken n bytes (second_true (is_text_byte byte) (list_all is_text_byte bytes) h))

text_dropped : (n : ℕ) (bytes : List ℕ) → IsText bytes → IsText (drop n bytes)
text_dropped zero bytes h = h
text_dropped (suc n) [] h = h
text_dropped (suc n) (byte ∷ bytes) h = text_dropped n bytes (second_true (is_text_byte byte) (list_all is_text_byte bytes) h)

pub text_within : (n m : ℕ) (bytes : List ℕ) → IsText bytes → IsText (take n (drop m bytes))
text_within n m bytes h = text_taken n (drop m bytes) (text_dropped m bytes h)
