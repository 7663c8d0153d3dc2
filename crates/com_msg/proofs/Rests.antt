-- Pieces of a message: the first of them cut, and their first characters given or left out.
use Rattle.std.proofs.Common.{◌≡◌, ℕ, zero, suc, ◌+◌, ◌-◌, ◌<◌, ◌≤◌, nat_le, true, false, List, [], ◌∷◌, ◌++◌, length, take, drop, get_or, refl, sym, ap, ◌∙◌, arith, append_assoc, length-append, length-drop, drop-cons, Bool, nat_lt}
use Rattle.std.specs.Prelude.{min}
use Rattle.std.specs.List.{concat}
use Rattle.std.proofs.Math.ListN.{length-take}
use Rattle.std.proofs.Math.Seq.{take-nil}
use Rattle.std.proofs.lemmas.List.{take_all, drop_all, append-nil, get_or-drop}
use Rattle.std.proofs.Math.Numerals.{add-one}
use Rattle.std.proofs.lemmas.Bool.Decides.{nat_tests}
use Rattle.com_msg.specs.Places.{IsPlace, cut_first, pieces_at}
use Rattle.com_msg.specs.declared.message.Message.{Message}
use Rattle.com_msg.specs.declared.rest.Kind.TheVariants as Kind
use Rattle.com_msg.specs.declared.rest.Place.{Place}
use Rattle.com_msg.specs.Portion.{drop_characters, portion_of, more_key, take_portion, with_pieces}

-- without a cut the pieces are whole
pub cut_first-zero : (pieces : List (List ℕ)) → cut_first 0 pieces ≡ pieces
cut_first-zero [] = refl
cut_first-zero (piece ∷ pieces) = refl

-- the first of the pieces from a place on, cut
pub cut_first-at : (pieces : List (List ℕ)) (i taken : ℕ) (d : List ℕ) → i < length pieces → cut_first taken (drop i pieces) ≡ drop taken (get_or pieces i d) ∷ drop (i + 1) pieces
cut_first-at pieces i taken d h = rw (drop-cons pieces i d, add-one) refl

-- the first characters of two lists: so many of the first, and what is then due of the second
pub take-over : (n given : ℕ) (xs ys : List ℕ) → given ≡ min n (length xs) → take n (xs ++ ys) ≡ take given xs ++ take (n - given) ys
take-over n given [] ys h = let e : n - given ≡ n = omega arith in rw (take-nil given, e) refl
take-over zero given (x ∷ xs) ys h = let e : given ≡ 0 = omega arith in rw e refl
take-over (suc n) zero (x ∷ xs) ys h = absurd (omega arith)
take-over (suc n) (suc given) (x ∷ xs) ys h =
    let e : suc n - suc given ≡ n - given = omega arith in
    rw e (ap (λ zs. x ∷ zs) (take-over n given xs ys (omega arith)))

-- the joined pieces from a place on, the first of them cut
pub concat-at : (pieces : List (List ℕ)) (i taken : ℕ) (d : List ℕ) → i < length pieces → concat (cut_first taken (drop i pieces)) ≡ drop taken (get_or pieces i d) ++ concat (drop (i + 1) pieces)
concat-at pieces i taken d h = rw (cut_first-at pieces i taken d h) refl

-- one more piece gives its characters to a text, as many as are due
pub more-characters : (size i skipped given : ℕ) (bytes piece d : List ℕ) (pieces : List (List ℕ)) → i < length pieces → piece ≡ drop skipped (get_or pieces i d) → length bytes ≤ size → given ≡ min (size - length bytes) (length piece) → (bytes ++ take given piece) ++ take (size - length (bytes ++ take given piece)) (concat (cut_first 0 (drop (i + 1) pieces))) ≡ bytes ++ take (size - length bytes) (concat (cut_first skipped (drop i pieces)))
more-characters size i skipped given bytes piece d pieces h is short all =
    let given-length : length (take given piece) ≡ given = rw (length-take given piece) (omega arith) in
    let due : size - length (bytes ++ take given piece) ≡ size - length bytes - given = rw (length-append bytes (take given piece), given-length) (omega arith) in
    rw (due, cut_first-zero (drop (i + 1) pieces), concat-at pieces i skipped d h, ← is, append_assoc, take-over (size - length bytes) given piece (concat (drop (i + 1) pieces)) all) refl

-- what is due stops within a piece that has more characters
pub drop_characters-stops : (due : ℕ) (piece : List ℕ) (pieces : List (List ℕ)) → due < length piece → drop_characters due (piece ∷ pieces) ≡ drop due piece ∷ pieces
drop_characters-stops zero piece pieces h = refl
drop_characters-stops (suc n) piece pieces h = grind (arith, nat_tests)

-- what is due passes a piece that has no more characters
pub drop_characters-passes : (due : ℕ) (piece : List ℕ) (pieces : List (List ℕ)) → 1 ≤ due → length piece ≤ due → drop_characters due (piece ∷ pieces) ≡ drop_characters (due - length piece) pieces
drop_characters-passes zero piece pieces some h = absurd (omega arith)
drop_characters-passes (suc n) piece pieces some h = grind (arith, nat_tests)

-- the characters after the first so many, as a range to the end
pub to-the-end {ℓ} : {A : Type ℓ} → (n : ℕ) (xs : List A) → take (length xs - n) (drop n xs) ≡ drop n xs
to-the-end n xs = take_all (length xs - n) (drop n xs) (omega (arith, length-drop n xs))

-- characters left out twice
pub drop-over {ℓ} : {A : Type ℓ} → (m n : ℕ) (xs : List A) → drop n (drop m xs) ≡ drop (m + n) xs
drop-over zero n xs = let e : 0 + n ≡ n = omega arith in rw e refl
drop-over (suc m) zero [] = let e : suc m + 0 ≡ suc m = omega arith in rw e refl
drop-over (suc m) (suc n) [] = let e : suc m + suc n ≡ suc (m + suc n) = omega arith in rw e refl
drop-over (suc m) n (x ∷ xs) = let e : suc m + n ≡ suc (m + n) = omega arith in rw e (drop-over m n xs)

-- a text is whole where no piece is left
pub no-more : (n skipped i : ℕ) (bytes : List ℕ) (pieces : List (List ℕ)) → length pieces ≤ i → bytes ++ take n (concat (cut_first skipped (drop i pieces))) ≡ bytes
no-more n skipped i bytes pieces h = rw (drop_all i pieces h, take-nil n) (append-nil bytes)

-- a text is whole where nothing is due
pub none-due : (n : ℕ) (bytes xs : List ℕ) → n ≡ 0 → bytes ++ take n xs ≡ bytes
none-due n bytes xs h = rw h (append-nil bytes)

-- characters of a piece that is cut are those after the cut
cut-by-cases : (b : Bool) (taken size : ℕ) (piece : List ℕ) (pieces : List (List ℕ)) → nat_le (length piece) (taken + size) ≡ b → 1 ≤ size → taken ≤ length piece → drop_characters size (drop taken piece ∷ pieces) ≡ drop_characters (taken + size) (piece ∷ pieces)
cut-by-cases true taken size piece pieces e some h =
    let within : length piece ≤ taken + size = grind (arith, nat_tests) in
    let left : size - length (drop taken piece) ≡ taken + size - length piece = rw (length-drop taken piece) (omega arith) in
    let behind = drop_characters-passes size (drop taken piece) pieces some (omega (arith, length-drop taken piece)) in
    rw (behind, left, drop_characters-passes (taken + size) piece pieces (omega arith) within) refl
cut-by-cases false taken size piece pieces e some h =
    let beyond : taken + size < length piece = grind (arith, nat_tests) in
    let behind = drop_characters-stops size (drop taken piece) pieces (omega (arith, length-drop taken piece)) in
    rw (behind, drop-over taken size piece, drop_characters-stops (taken + size) piece pieces beyond) refl

-- the same where there may be no piece
pub drop_characters-cut : (taken size : ℕ) (pieces : List (List ℕ)) → 1 ≤ size → taken ≤ length (get_or pieces 0 []) → drop_characters size (cut_first taken pieces) ≡ drop_characters (taken + size) pieces
drop_characters-cut taken zero pieces some h = absurd (omega arith)
drop_characters-cut taken (suc n) [] some h = let e : taken + suc n ≡ suc (taken + n) = omega arith in rw e refl
drop_characters-cut taken (suc n) (piece ∷ pieces) some h = cut-by-cases _ taken (suc n) piece pieces refl some h

-- a cut takes its characters from the joined pieces
length-cut : (taken : ℕ) (pieces : List (List ℕ)) → taken ≤ length (get_or pieces 0 []) → length (concat (cut_first taken pieces)) + taken ≡ length (concat pieces)
length-cut taken [] h = omega arith
length-cut taken (piece ∷ pieces) h =
    omega (arith, length-append (drop taken piece) (concat pieces), length-append piece (concat pieces), length-drop taken piece)

-- what is given of a message with more characters, and where it goes on
pub message-goes-on : (size : ℕ) (place behind : Place) (message : Message) → 1 ≤ size → IsPlace place message.segments → nat_lt (place.taken + size) (length (concat (drop place.segment message.segments))) ≡ true → pieces_at behind (drop place.segment message.segments) ≡ drop_characters (place.taken + size) (drop place.segment message.segments) → take_portion Kind.Message size (with_pieces (pieces_at place message.segments) message) ≡ (portion_of (take size (concat (pieces_at place message.segments))) more_key, with_pieces (cut_first behind.taken (drop (place.segment + behind.segment) message.segments)) message)
message-goes-on size place behind message some at longer goes_on =
    let taken = place.taken in
    let segments = message.segments in
    let pieces = drop place.segment segments in
    let first : taken ≤ length (get_or pieces 0 []) = rw (get_or-drop place.segment segments 0 []) (let e : place.segment + 0 ≡ place.segment = omega arith in rw e at.taken_within) in
    let cut = length-cut taken pieces first in
    let not_all : nat_le (length (concat (cut_first taken pieces))) size ≡ false = grind (arith, nat_tests) in
    let left : drop_characters size (cut_first taken pieces) ≡ cut_first behind.taken (drop (place.segment + behind.segment) segments) =
    drop_characters-cut taken size pieces some first ∙ sym goes_on ∙ ap (cut_first behind.taken) (drop-over place.segment behind.segment segments) in
    rw (not_all, left) refl
