-- What a RECEIVE takes of a rest, and what it leaves.
use Rattle.std.proofs.Common.{◌≡◌, ℕ, ◌-◌, ◌+◌, ◌≤◌, ◌<◌, Bool, true, false, zero, suc, List, [], ◌∷◌, ◌++◌, length, take, drop, refl, sym, ap, ◌∙◌, inl, inr, arith, nat_le, append_assoc, append-nil, length-append, take-append-drop}
use Rattle.std.specs.List.{concat}
use Rattle.std.proofs.lemmas.Bool.{cases_Bool, leb-true, leb-false}
use Rattle.std.proofs.lemmas.List.{drop-append-le, drop-drop, drop_at}
use Rattle.com_msg.specs.declared.message.End.{End}
use Rattle.com_msg.specs.declared.message.End.TheVariants.{Emi, Egi}
use Rattle.com_msg.specs.declared.rest.Kind.{Kind}
use Rattle.com_msg.specs.declared.rest.Kind.TheVariants.{Message, Segment}
use Rattle.com_msg.specs.Portion.{last_key, drop_characters, portion, message_portion, segment_portion, key_before}
use Rattle.com_state.specs.Wholeness.{is_last_key}

-- no piece is left
abbrev pub is_nothing_left : List (List ℕ) → Bool
is_nothing_left [] = true
is_nothing_left (piece ∷ pieces) = false

-- to drop more than the first part is to drop of what comes after it
drop_behind : (n : ℕ) (xs ys : List ℕ) → length xs ≤ n → drop n (xs ++ ys) ≡ drop (n - length xs) ys
drop_behind n xs ys h =
    let sum : length xs + (n - length xs) ≡ n = omega arith in
    ap (λ m. drop m (xs ++ ys)) (sym sum) ∙ (sym (drop-drop (n - length xs) (length xs) (xs ++ ys)) ∙ ap (drop (n - length xs)) (drop_at xs ys (length xs) refl))

-- the pieces without some characters are the text without them
drop_text : (n : ℕ) (pieces : List (List ℕ)) → concat (drop_characters n pieces) ≡ drop n (concat pieces)
drop_text zero pieces = refl
drop_text (suc n) [] = refl
drop_text (suc n) (piece ∷ pieces) = elim (cases_Bool (nat_le (length piece) (suc n))) [
  | inl whole ↦ rw whole (drop_text (suc n - length piece) pieces ∙ sym (drop_behind (suc n) piece (concat pieces) (leb-true (length piece) (suc n) whole)))
  | inr part ↦
      let within : suc n ≤ length piece = omega (arith, leb-false (length piece) (suc n) part) in
      rw part (sym (drop-append-le (suc n) piece (concat pieces) within))
]

-- while there is more text, there is a piece
drop_more : (n : ℕ) (pieces : List (List ℕ)) → n < length (concat pieces) → is_nothing_left (drop_characters n pieces) ≡ false
drop_more zero [] h = absurd (omega arith)
drop_more zero (piece ∷ pieces) h = refl
drop_more (suc n) [] h = absurd (omega arith)
drop_more (suc n) (piece ∷ pieces) h = elim (cases_Bool (nat_le (length piece) (suc n))) [
  | inl whole ↦
      let long : length (piece ++ concat pieces) ≡ length piece + length (concat pieces) = length-append piece (concat pieces) in
      let within : length piece ≤ suc n = leb-true (length piece) (suc n) whole in
      rw whole (drop_more (suc n - length piece) pieces (omega arith))
  | inr part ↦ rw part refl
]

-- MESSAGE keeps the text
message_text : (size : ℕ) (end : End) (pieces : List (List ℕ)) → (message_portion size end pieces).0.text ++ concat (message_portion size end pieces).1 ≡ concat pieces
message_text size end pieces = elim (cases_Bool (nat_le (length (concat pieces)) size)) [
  | inl all ↦ rw all (append-nil (concat pieces))
  | inr more ↦ rw more (ap (λ behind. take size (concat pieces) ++ behind) (drop_text size pieces) ∙ take-append-drop size (concat pieces))
]

-- SEGMENT keeps it
segment_text : (size : ℕ) (end : End) (pieces : List (List ℕ)) → (segment_portion size end pieces).0.text ++ concat (segment_portion size end pieces).1 ≡ concat pieces
segment_text size end [] = refl
segment_text size end (piece ∷ pieces) = elim (cases_Bool (nat_le (length piece) size)) [
  | inl all ↦ rw all refl
  | inr more ↦ rw more (sym (append_assoc (take size piece) (drop size piece) (concat pieces)) ∙ ap (λ front. front ++ concat pieces) (take-append-drop size piece))
]

-- what is given and what is left are what there was
pub taken_text : (kind : Kind) (size : ℕ) (end : End) (pieces : List (List ℕ)) → (portion kind size end pieces).0.text ++ concat (portion kind size end pieces).1 ≡ concat pieces
taken_text Message size end pieces = message_text size end pieces
taken_text Segment size end pieces = segment_text size end pieces

-- the key of EMI or EGI ends a message
last_is_last : (end : End) → is_last_key (last_key end) ≡ true
last_is_last Emi = refl
last_is_last Egi = refl

-- a segment that is given to its end has such a key just where none is after it
key_is_last : (pieces : List (List ℕ)) (end : End) → is_last_key (key_before pieces end) ≡ is_nothing_left pieces
key_is_last [] end = last_is_last end
key_is_last (piece ∷ pieces) end = refl

-- a MESSAGE that is given whole has it, and no other
message_key : (size : ℕ) (end : End) (pieces : List (List ℕ)) → is_last_key (message_portion size end pieces).0.end_key ≡ is_nothing_left (message_portion size end pieces).1
message_key size end pieces = elim (cases_Bool (nat_le (length (concat pieces)) size)) [
  | inl all ↦ rw all (last_is_last end)
  | inr more ↦ rw more (sym (drop_more size pieces (leb-false (length (concat pieces)) size more)))
]

-- so has the last SEGMENT
segment_key : (size : ℕ) (end : End) (pieces : List (List ℕ)) → is_last_key (segment_portion size end pieces).0.end_key ≡ is_nothing_left (segment_portion size end pieces).1
segment_key size end [] = last_is_last end
segment_key size end (piece ∷ pieces) = elim (cases_Bool (nat_le (length piece) size)) [
  | inl all ↦ rw all (key_is_last pieces end)
  | inr more ↦ rw more refl
]

-- a portion has a last key just where nothing is left
pub taken_key : (kind : Kind) (size : ℕ) (end : End) (pieces : List (List ℕ)) → is_last_key (portion kind size end pieces).0.end_key ≡ is_nothing_left (portion kind size end pieces).1
taken_key Message size end pieces = message_key size end pieces
taken_key Segment size end pieces = segment_key size end pieces
