-- Reading segments one after another.
use Rattle.std.proofs.Common.{◌≡◌, ℕ, zero, suc, Option, Some, None, List, [], ◌∷◌, ◌++◌, refl, sym, ap, ◌∙◌, option_map, append_assoc}
use Rattle.std.proofs.lemmas.List.{append-nil}
use Rattle.com_msg.specs.declared.message.TheConstants.{MAX_SEGMENT_LENGTH}
use Rattle.com_journal.specs.declared.line.Unread.{Unread}
use Rattle.com_journal.specs.declared.line.Unread.TheVariants as unread
use Rattle.com_journal.specs.inner.Outcomes.{Fails}
use Rattle.com_journal.specs.inner.Reading.{text_at, segments_at}

-- segments, and after them what was read
abbrev pub with_front : List (List ℕ) → Option (List (List ℕ) × List ℕ) → Option (List (List ℕ) × List ℕ)
with_front segments found =
    option_map (λ (tail : List (List ℕ) × List ℕ). (segments ++ tail.0, tail.1)) found

-- where one step fails, the whole does
pub fails_along : {A B : Type 0} (e : Unread) (part : Option A) (whole : Option B) → Fails e part → (part ≡ None → whole ≡ None) → Fails e whole
fails_along unread.Refused part whole h next = next h
fails_along unread.Memory part whole h next = tt

-- one segment is read, and then the others
behind_one : (segments : List (List ℕ)) (segment : List ℕ) (n : ℕ) (found : Option (List (List ℕ) × List ℕ))
    → with_front segments (option_map (λ (tail : List (List ℕ) × List ℕ). (segment ∷ tail.0, tail.1)) found) ≡ with_front (segments ++ segment ∷ []) found
behind_one segments segment n None = refl
behind_one segments segment n (Some tail) = ap (λ all. Some (all, tail.1)) (sym (append_assoc segments (segment ∷ []) tail.0))

one_more : (n : ℕ) (segment rest : List ℕ) (found : Option (List (List ℕ) × List ℕ)) → found ≡ segments_at n rest → (bytes : List ℕ) → text_at 0 MAX_SEGMENT_LENGTH bytes ≡ Some (segment, rest)
    → segments_at (suc n) bytes ≡ option_map (λ (tail : List (List ℕ) × List ℕ). (segment ∷ tail.0, tail.1)) found
unfolding segments_at
one_more n segment rest None e bytes h = rw (h, ← e) refl
one_more n segment rest (Some tail) e bytes h = rw (h, ← e) refl

pub more_read : (n : ℕ) (bytes rest segment : List ℕ) (segments : List (List ℕ)) → text_at 0 MAX_SEGMENT_LENGTH bytes ≡ Some (segment, rest)
    → with_front segments (segments_at (suc n) bytes) ≡ with_front (segments ++ segment ∷ []) (segments_at n rest)
more_read n bytes rest segment segments h =
    ap (with_front segments) (one_more n segment rest (segments_at n rest) refl bytes h) ∙ behind_one segments segment n (segments_at n rest)

-- where one segment is not read, the others are not
pub none_read : (n : ℕ) (bytes : List ℕ) (segments : List (List ℕ)) → text_at 0 MAX_SEGMENT_LENGTH bytes ≡ None → with_front segments (segments_at (suc n) bytes) ≡ None
unfolding segments_at
none_read n bytes segments h = rw h refl

-- after the last nothing more is read
pub all_read : (bytes : List ℕ) (segments : List (List ℕ)) → with_front segments (segments_at zero bytes) ≡ Some (segments, bytes)
unfolding segments_at
all_read bytes segments = ap (λ all. Some (all, bytes)) (append-nil segments)
