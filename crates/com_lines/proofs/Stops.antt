-- Where one more byte of a terminal's input is at fault, by what a reading keeps.
use Rattle.std.proofs.Common.{◌≡◌, ◌≢◌, ◌⊎◌, inl, inr, ℕ, ◌+◌, ◌-◌, ◌<◌, ◌≤◌, true, false, List, [], ◌∷◌, ◌++◌, length, get_or, take, refl, sym, ap, ◌∙◌, arith, Some, None}
use Rattle.std.specs.List.{filter, count_by}
use Rattle.std.proofs.lemmas.Bool.{cases_Bool, eq-eqb, eqb-true, ne_eqb}
use Rattle.std.proofs.lemmas.List.{drop_at, get_or_append_left, get_or_at, length_push, take-append-le, take_all, take_at, take_more}
use Rattle.com_text.specs.Text.{is_text_byte}
use Rattle.com_msg.specs.declared.message.RawMessage.{RawMessage}
use Rattle.com_msg.specs.declared.framing.Framing.{Framing}
use Rattle.com_msg.specs.declared.framing.Framing.TheVariants.{Marks, Lines}
use Rattle.com_msg.specs.declared.framing.FrameFault.{FrameFault}
use Rattle.com_msg.specs.declared.framing.FrameKind.{FrameKind}
use Rattle.com_msg.specs.declared.framing.FrameKind.TheVariants.{BadByte}
use Rattle.com_lines.specs.declared.reading.Reading.{Reading}
use Rattle.com_lines.specs.Bytes.{ended, is_between, is_ending, is_inside, is_kept, last_of, run, tail_of}
use Rattle.com_lines.specs.Faults.{kind_at, kind_of}
use Rattle.com_lines.specs.Frames.{AreEnded, IsSettled, IsStopped}
use Rattle.com_lines.specs.inner.Reads.{HoldsReturn, Reads}
use Rattle.com_lines.specs.inner.Readings.{HasRead, IsSafe, IsStop, holds_return, is_return, next_kind}
use Rattle.com_lines.proofs.Places.{IsRight, clear-before, kind_at-behind, kind_at-kept, kind_of-lines}
use Rattle.com_lines.proofs.Runs.{before_run-push_yes, last_of-get}

-- a reading tells whether the last byte is a CR of lines
pub held-told : (framing : Framing) (last : ℕ) (bytes : List ℕ) → last ≡ last_of bytes → HoldsReturn framing bytes → is_return framing last ≡ true
held-told Marks last bytes e h = absurd h
held-told Lines last bytes e h = eq-eqb last 13 (e ∙ h)

pub held-from : (framing : Framing) (last : ℕ) (bytes : List ℕ) → last ≡ last_of bytes → is_return framing last ≡ true → HoldsReturn framing bytes
held-from Marks last bytes e h = absurd cc
held-from Lines last bytes e h = sym e ∙ eqb-true last 13 h

pub free-told : (framing : Framing) (last : ℕ) (bytes : List ℕ) → last ≡ last_of bytes → is_return framing last ≡ false → ¬ HoldsReturn framing bytes
free-told framing last bytes e free held = let told = held-told framing last bytes e held in cc

-- how many characters the message has
pub characters-told : (reading : Reading) (bytes : List ℕ) (given : List RawMessage) → IsSafe reading → HasRead reading bytes given
    → reading.characters ≡ count_by is_text_byte (tail_of reading.framing bytes)
characters-told reading bytes given safe h = safe.counted ∙ sym h.reads.characters

-- what a reading tells of the next byte is what is wrong with it
pub kind-told : (reading : Reading) (bytes : List ℕ) (given : List RawMessage) (byte : ℕ) → IsSafe reading → HasRead reading bytes given
    → (¬ HoldsReturn reading.framing bytes) ⊎ (is_text_byte byte ≡ false)
    → next_kind reading byte ≡ kind_of reading.framing bytes byte (10 ∷ [])
kind-told reading bytes given byte safe h (inl free) =
    let in_run : length reading.text ≡ length (run is_text_byte bytes) = sym (h.reads.in_run free) in
    let messages : reading.given ≡ count_by (is_ending reading.framing) bytes = h.messages ∙ sym h.reads.endings in
    let characters = characters-told reading bytes given safe h in
    let betweens : length reading.segments ≡ count_by (is_between reading.framing) (tail_of reading.framing bytes) = sym h.reads.betweens in
    rw (h.last, in_run, characters, betweens, messages) refl
kind-told reading bytes given byte safe h (inr none) =
    let messages : reading.given ≡ count_by (is_ending reading.framing) bytes = h.messages ∙ sym h.reads.endings in
    let characters = characters-told reading bytes given safe h in
    let betweens : length reading.segments ≡ count_by (is_between reading.framing) (tail_of reading.framing bytes) = sym h.reads.betweens in
    rw (none, h.last, characters, betweens, messages) refl

-- nothing is wrong before an LF, so nothing that the next byte does not decide
pub right-from : (framing : Framing) (bytes : List ℕ) (byte : ℕ) → kind_of framing bytes byte (10 ∷ []) ≡ None → IsRight framing bytes byte
right-from Marks bytes byte h = h
right-from Lines bytes byte h = λ ne. sym (kind_of-lines bytes byte [] (10 ∷ []) (λ e. absurd (ne e))) ∙ h

-- a CR before an LF is free of fault
return-free : (bytes : List ℕ) (byte : ℕ) (kind : FrameKind) → kind_of Lines bytes byte (10 ∷ []) ≡ Some kind → byte ≢ 13
return-free bytes byte kind h e = let free : kind_of Lines bytes byte (10 ∷ []) ≡ None = rw e refl in cc

-- the byte is at fault
pub stopped-here : (framing : Framing) (bytes : List ℕ) (given : List RawMessage) (segments : List (List ℕ)) (text : List ℕ) (byte : ℕ) (fault : FrameFault)
    → Reads framing bytes given segments text → kind_of framing bytes byte (10 ∷ []) ≡ Some fault.kind → fault.at ≡ length bytes → (HoldsReturn framing bytes → byte ≡ 10)
    → IsStopped framing (bytes ++ byte ∷ []) given fault
stopped-here framing bytes given segments text byte fault h wrong at held =
    record {
      settled = record {
        first_fault = record {
          within = omega (arith, length_push bytes byte);
          kind = rw at (kind_at-behind framing bytes byte [] ∙ wrong_here framing wrong);
          first = λ i before _. clear-before framing bytes byte h.clear held i (omega (arith, at));
        };
        settled = rw at (settled framing wrong);
      };
      ended = rw (at, take_at bytes (byte ∷ []) (length bytes) refl) h.ended;
    } where
      wrong_here : (framing : Framing) → kind_of framing bytes byte (10 ∷ []) ≡ Some fault.kind → kind_of framing bytes byte [] ≡ Some fault.kind
      wrong_here Marks w = w
      wrong_here Lines w = sym (kind_of-lines bytes byte [] (10 ∷ []) (λ e. absurd (return-free bytes byte fault.kind w e))) ∙ w

      settled : (framing : Framing) → kind_of framing bytes byte (10 ∷ []) ≡ Some fault.kind → IsSettled framing (bytes ++ byte ∷ []) (length bytes)
      settled Marks w = omega (arith, length_push bytes byte)
      settled Lines w = (omega (arith, length_push bytes byte), λ e. absurd (return-free bytes byte fault.kind w (sym (get_or_at bytes byte [] 0 (length bytes) refl) ∙ e)))

-- what ends before a CR at the end ends in all
pub ended-before_return : (bytes : List ℕ) (i : ℕ) (given : List RawMessage) → i + 1 ≡ length bytes → last_of bytes ≡ 13 → AreEnded Lines bytes given → AreEnded Lines (take i bytes) given
ended-before_return bytes i given at e h =
    let within : i < length bytes = omega arith in
    let last : get_or bytes i 0 ≡ 13 = last_of-get bytes i at ∙ e in
    let whole : bytes ≡ take i bytes ++ 13 ∷ [] = sym (take_all (i + 1) bytes (omega arith)) ∙ take_more bytes i 0 within ∙ rw last refl in
    let same : ended Lines bytes ≡ ended Lines (take i bytes) = ap (ended Lines) whole ∙ before_run-push_yes (is_inside Lines) (take i bytes) 13 refl in
    record { framed = h.framed; spelled = h.spelled ∙ ap (filter (is_kept Lines)) same }

-- a CR that stands last is at fault, whatever byte but LF follows, or none
pub return-kind : (bytes more : List ℕ) (i : ℕ) → i + 1 ≡ length bytes → last_of bytes ≡ 13 → get_or more 0 0 ≢ 10 → kind_at Lines (bytes ++ more) i ≡ Some BadByte
return-kind bytes more i at e ne =
    let within : i < length bytes = omega arith in
    let last : get_or bytes i 0 ≡ 13 = last_of-get bytes i at ∙ e in
    rw (take-append-le i bytes more (omega arith), get_or_append_left bytes more 0 i within, drop_at bytes more (i + 1) (sym at), last, ne_eqb (get_or more 0 0) 10 ne) refl

-- the byte shows that a CR before it is at fault
pub stopped-before : (bytes : List ℕ) (given : List RawMessage) (segments : List (List ℕ)) (text : List ℕ) (byte : ℕ) (fault : FrameFault)
    → Reads Lines bytes given segments text → HoldsReturn Lines bytes → byte ≢ 10 → fault.at + 1 ≡ length bytes → fault.kind ≡ BadByte
    → IsStopped Lines (bytes ++ byte ∷ []) given fault
stopped-before bytes given segments text byte fault h held ne at kind =
    record {
      settled = record {
        first_fault = record {
          within = omega (arith, length_push bytes byte);
          kind = rw kind (return-kind bytes (byte ∷ []) fault.at at held ne);
          first = λ i before _. let settled : IsSettled Lines bytes i = (omega arith, λ _. omega arith) in kind_at-kept Lines bytes (byte ∷ []) i settled ∙ h.clear i settled;
        };
        settled = (omega (arith, length_push bytes byte), λ _. omega (arith, length_push bytes byte));
      };
      ended = rw (take-append-le fault.at bytes (byte ∷ []) (omega arith)) (ended-before_return bytes fault.at given at held h.ended);
    }

-- the same for either framing
stopped-return : (framing : Framing) (bytes : List ℕ) (given : List RawMessage) (segments : List (List ℕ)) (text : List ℕ) (byte : ℕ) (fault : FrameFault)
    → Reads framing bytes given segments text → HoldsReturn framing bytes → byte ≢ 10 → fault.at + 1 ≡ length bytes → fault.kind ≡ BadByte
    → IsStopped framing (bytes ++ byte ∷ []) given fault
stopped-return Marks bytes given segments text byte fault h held ne at kind = absurd held
stopped-return Lines bytes given segments text byte fault h held ne at kind = stopped-before bytes given segments text byte fault h held ne at kind

-- a reading answers the fault of a CR that no LF follows
pub stop-before : (reading : Reading) (byte : ℕ) (fault : FrameFault) → IsSafe reading → holds_return reading ≡ true → byte ≢ 10
    → fault.at ≡ reading.at - 1 → fault.kind ≡ BadByte → IsStop reading byte fault
stop-before reading byte fault safe holds ne at kind = λ bytes given h.
    let held = held-from reading.framing reading.last bytes h.last holds in
    let some : 1 ≤ reading.at = safe.held holds in
    stopped-return reading.framing bytes given reading.segments reading.text byte fault h.reads held ne (omega (arith, h.at)) kind

-- what the next byte may be, where a CR stands before it
held-cases : (reading : Reading) (bytes : List ℕ) (byte : ℕ) → reading.last ≡ last_of bytes → (holds_return reading ≡ true → byte ≡ 10)
    → (¬ HoldsReturn reading.framing bytes) ⊎ (is_text_byte byte ≡ false)
held-cases reading bytes byte last behind =
    elim (cases_Bool (holds_return reading)) as (λ _. (¬ HoldsReturn reading.framing bytes) ⊎ (is_text_byte byte ≡ false)) [
      | inl holds ↦ inr (let e = behind holds in rw e refl)
      | inr free ↦ inl (free-told reading.framing reading.last bytes last free)
    ]

-- a reading answers the fault of a byte
pub stop-here : (reading : Reading) (byte : ℕ) (kind : FrameKind) → IsSafe reading → next_kind reading byte ≡ Some kind
    → (holds_return reading ≡ true → byte ≡ 10) → IsStop reading byte (record { at = reading.at; kind = kind })
stop-here reading byte kind safe wrong behind = λ bytes given h.
    let told = kind-told reading bytes given byte safe h (held-cases reading bytes byte h.last behind) in
    let fault : FrameFault = record { at = reading.at; kind = kind } in
    stopped-here reading.framing bytes given reading.segments reading.text byte fault h.reads (sym told ∙ wrong) h.at (λ held. behind (held-told reading.framing reading.last bytes h.last held))

-- where a reading tells no fault, the byte is right
pub right-told : (reading : Reading) (bytes : List ℕ) (given : List RawMessage) (byte : ℕ) → IsSafe reading → HasRead reading bytes given → next_kind reading byte ≡ None
    → (holds_return reading ≡ true → byte ≡ 10) → IsRight reading.framing bytes byte
right-told reading bytes given byte safe h right behind =
    right-from reading.framing bytes byte (sym (kind-told reading bytes given byte safe h (held-cases reading bytes byte h.last behind)) ∙ right)
