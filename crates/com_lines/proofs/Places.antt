-- Places of bytes to which more are added.
use Rattle.std.proofs.Common.{◌≡◌, ℕ, ◌+◌, ◌<◌, ◌≤◌, List, [], ◌∷◌, ◌++◌, length, get_or, take, drop, refl, sym, ap, ◌∙◌, arith, None, length-append, inl, inr, ◌≢◌}
use Rattle.std.proofs.lemmas.Bool.{ne_eqb, cases_eq, cases_lt}
use Rattle.std.proofs.lemmas.List.{get_or_append_left, take_at, get_or_at, drop_at, take-append-le, drop-append-le, length_push, length-drop, append_assoc}
use Rattle.com_msg.specs.declared.framing.Framing.{Framing}
use Rattle.com_msg.specs.declared.framing.Framing.TheVariants.{Marks, Lines}
use Rattle.com_lines.specs.Faults.{kind_at, kind_of}
use Rattle.com_lines.specs.Frames.{IsSettled}
use Rattle.com_lines.specs.inner.Reads.{HoldsReturn, IsClearSoFar}
use Rattle.com_lines.proofs.Runs.{last_of-get}

-- what is wrong with a byte that comes after some bytes and before some
pub kind_at-behind : (framing : Framing) (before : List ℕ) (byte : ℕ) (after : List ℕ) → kind_at framing (before ++ byte ∷ after) (length before) ≡ kind_of framing before byte after
kind_at-behind framing before byte after =
    let rest : drop (length before + 1) (before ++ byte ∷ after) ≡ after =
    ap (drop (length before + 1)) (sym (append_assoc before (byte ∷ []) after)) ∙ drop_at (before ++ byte ∷ []) after (length before + 1) (length_push before byte) in
    rw (take_at before (byte ∷ after) (length before) refl, get_or_at before byte after 0 (length before) refl, rest) refl

first-kept : (after more : List ℕ) → 0 < length after → get_or (after ++ more) 0 0 ≡ get_or after 0 0
first-kept after more h = get_or_append_left after more 0 0 h

-- what is wrong with a byte of lines is settled by the next byte, where it is a CR
pub kind_of-lines : (before : List ℕ) (byte : ℕ) (after more : List ℕ) → (byte ≡ 13 → 0 < length after) → kind_of Lines before byte (after ++ more) ≡ kind_of Lines before byte after
kind_of-lines before byte after more h =
    elim (cases_eq byte 13) as (λ _. kind_of Lines before byte (after ++ more) ≡ kind_of Lines before byte after) [
      | inl e ↦ rw (first-kept after more (h e)) refl
      | inr ne ↦ rw (ne_eqb byte 13 ne) refl
    ]

-- a settled place stays as it is, whatever follows
pub kind_at-kept : (framing : Framing) (bytes more : List ℕ) (i : ℕ) → IsSettled framing bytes i → kind_at framing (bytes ++ more) i ≡ kind_at framing bytes i
kind_at-kept Marks bytes more i h =
    let near : i ≤ length bytes = omega arith in
    rw (take-append-le i bytes more near, get_or_append_left bytes more 0 i h) refl
kind_at-kept Lines bytes more i h =
    let near : i ≤ length bytes = omega arith in
    let next : i + 1 ≤ length bytes = omega arith in
    let behind = λ (e : get_or bytes i 0 ≡ 13). let long : i + 1 < length bytes = h.1 e in let some : 0 < length (drop (i + 1) bytes) = omega (arith, length-drop (i + 1) bytes) in some in
    rw (take-append-le i bytes more near, get_or_append_left bytes more 0 i h.0, drop-append-le (i + 1) bytes more next) (kind_of-lines (take i bytes) (get_or bytes i 0) (drop (i + 1) bytes) more behind)

-- a settled place stays settled
pub settled-kept : (framing : Framing) (bytes more : List ℕ) (i : ℕ) → IsSettled framing bytes i → IsSettled framing (bytes ++ more) i
settled-kept Marks bytes more i h = omega (arith, length-append bytes more)
settled-kept Lines bytes more i h =
    (omega (arith, h.0, length-append bytes more), λ e. let long = h.1 (sym (get_or_append_left bytes more 0 i h.0) ∙ e) in omega (arith, long, length-append bytes more))

-- a byte is free of fault, or a CR of lines
abbrev pub IsRight : Framing → List ℕ → ℕ → Type 0
IsRight Marks bytes byte = kind_of Marks bytes byte [] ≡ None
IsRight Lines bytes byte = byte ≢ 13 → kind_of Lines bytes byte [] ≡ None

-- a CR before an LF is free of fault
return-right : (before : List ℕ) (byte next : ℕ) → byte ≡ 13 → next ≡ 10 → kind_of Lines before byte (next ∷ []) ≡ None
return-right before byte next e f = rw (e, f) refl

same_place : (i n : ℕ) → i < n + 1 → ¬ (i < n) → i ≡ n
same_place i n h k = omega arith

-- what stands before one more byte stays free of fault
pub clear-before : (framing : Framing) (bytes : List ℕ) (byte : ℕ) → IsClearSoFar framing bytes → (HoldsReturn framing bytes → byte ≡ 10)
    → (i : ℕ) → i < length bytes → kind_at framing (bytes ++ byte ∷ []) i ≡ None
clear-before Marks bytes byte clear held i lt = kind_at-kept Marks bytes (byte ∷ []) i lt ∙ clear i lt
clear-before Lines bytes byte clear held i lt =
    elim (cases_eq (get_or bytes i 0) 13) as (λ _. kind_at Lines (bytes ++ byte ∷ []) i ≡ None) [
      | inl e ↦ elim (cases_lt (i + 1) (length bytes)) as (λ _. kind_at Lines (bytes ++ byte ∷ []) i ≡ None) [
        | inl more ↦ kind_at-kept Lines bytes (byte ∷ []) i (lt, λ _. more) ∙ clear i (lt, λ _. more)
        | inr last ↦
            let at_end : i + 1 ≡ length bytes = omega arith in
            let next = held (sym (last_of-get bytes i at_end) ∙ e) in
            let near : i ≤ length bytes = omega arith in
            rw (take-append-le i bytes (byte ∷ []) near, get_or_append_left bytes (byte ∷ []) 0 i lt, drop_at bytes (byte ∷ []) (i + 1) (sym at_end)) (return-right (take i bytes) (get_or bytes i 0) byte e next)
      ]
      | inr ne ↦ let settled : IsSettled Lines bytes i = (lt, λ e. absurd (ne e)) in kind_at-kept Lines bytes (byte ∷ []) i settled ∙ clear i settled
    ]

-- one more byte that is right leaves each settled place free of fault
pub clear-push : (framing : Framing) (bytes : List ℕ) (byte : ℕ) → IsClearSoFar framing bytes → IsRight framing bytes byte → (HoldsReturn framing bytes → byte ≡ 10) → IsClearSoFar framing (bytes ++ byte ∷ [])
clear-push Marks bytes byte clear right held i h =
    elim (cases_lt i (length bytes)) as (λ _. kind_at Marks (bytes ++ byte ∷ []) i ≡ None) [
      | inl lt ↦ clear-before Marks bytes byte clear held i lt
      | inr ge ↦ let e : i ≡ length bytes = omega (arith, length_push bytes byte) in rw e (kind_at-behind Marks bytes byte [] ∙ right)
    ]
clear-push Lines bytes byte clear right held i h =
    elim (cases_lt i (length bytes)) as (λ _. kind_at Lines (bytes ++ byte ∷ []) i ≡ None) [
      | inl lt ↦ clear-before Lines bytes byte clear held i lt
      | inr ge ↦
          let e : i ≡ length bytes = omega (arith, h.0, length_push bytes byte) in
          let plain = λ (cr : byte ≡ 13). let at : get_or (bytes ++ byte ∷ []) i 0 ≡ 13 = rw e (get_or_at bytes byte [] 0 (length bytes) refl ∙ cr) in let long = h.1 at in let no : ⊥ = omega (arith, long, length_push bytes byte) in no in
          rw e (kind_at-behind Lines bytes byte [] ∙ right plain)
    ]
