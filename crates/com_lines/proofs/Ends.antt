-- The end of a terminal's input, by what a reading keeps.
use Rattle.std.proofs.Common.{◌≡◌, ◌≢◌, inl, inr, ℕ, ◌+◌, ◌-◌, ◌<◌, ◌≤◌, true, false, List, [], ◌∷◌, ◌++◌, length, refl, sym, ◌∙◌, arith, suc, Some, None, length-append}
use Rattle.std.specs.Prelude.{◌==◌, not, nat_le, nat_lt}
use Rattle.std.specs.List.{count_by}
use Rattle.std.proofs.lemmas.Bool.{le-leb, lt-leb, lt-ltb, cases_eq, ne_eqb}
use Rattle.std.proofs.lemmas.List.{append-nil, take_all}
use Rattle.com_msg.specs.declared.message.End.TheVariants.{Emi}
use Rattle.com_msg.specs.declared.message.RawMessage.{RawMessage}
use Rattle.com_msg.specs.declared.framing.Framing.{Framing}
use Rattle.com_msg.specs.declared.framing.Framing.TheVariants.{Marks, Lines}
use Rattle.com_msg.specs.declared.framing.FrameFault.{FrameFault}
use Rattle.com_msg.specs.declared.framing.FrameKind.TheVariants.{BadByte, TooMany}
use Rattle.com_lines.specs.declared.reading.Reading.{Reading}
use Rattle.com_lines.specs.Bytes.{is_ending}
use Rattle.com_lines.specs.Faults.{is_open, kind_at, kind_at_end, kind_of}
use Rattle.com_lines.specs.Frames.{Frames, IsClear}
use Rattle.com_lines.specs.inner.Reads.{HoldsReturn, IsClearSoFar, Reads, opened}
use Rattle.com_lines.specs.inner.Readings.{HasRead, IsFaulty, IsSafe, IsWhole, has_open, holds_return, open_message}
use Rattle.com_lines.proofs.OneByte.{reads-end}
use Rattle.com_lines.proofs.Runs.{last_of-get}
use Rattle.com_lines.proofs.Stops.{ended-before_return, free-told, held-from, return-kind}
use Rattle.com_lines.proofs.Takes.{end-segments}

-- whether something is open is seen by its parts
pub open-segments : (segments : List (List ℕ)) (text : List ℕ) → 0 < length segments → true ≡ not (length (opened segments text) == 0)
open-segments [] text h = absurd (omega (arith, h))
open-segments (segment ∷ segments) text h =
    let long : length (segment ++ 0x17 ∷ opened segments text) ≢ 0 = λ e. absurd (omega (arith, e, length-append segment (0x17 ∷ opened segments text))) in
    rw (ne_eqb (length (segment ++ 0x17 ∷ opened segments text)) 0 long) refl

pub open-text : (segments : List (List ℕ)) (text : List ℕ) → length segments ≤ 0 → nat_lt 0 (length text) ≡ not (length (opened segments text) == 0)
open-text [] [] h = refl
open-text [] (byte ∷ text) h = let e = ne_eqb (suc (length text)) 0 (λ e. absurd (omega (arith, e))) in let l = lt-ltb 0 (suc (length text)) (omega arith) in rw (e, l) refl
open-text (segment ∷ segments) text h = absurd (omega (arith, h))

-- without a CR that waits, all places are settled
pub clear-whole : (framing : Framing) (bytes : List ℕ) → IsClearSoFar framing bytes → ¬ HoldsReturn framing bytes → IsClear framing bytes (length bytes)
clear-whole Marks bytes clear free i before within = clear i within
clear-whole Lines bytes clear free i before within =
    elim (cases_eq (i + 1) (length bytes)) as (λ _. kind_at Lines bytes i ≡ None) [
      | inl e ↦ clear i (within, λ cr. absurd (free (sym (last_of-get bytes i e) ∙ cr)))
      | inr ne ↦ clear i (within, λ _. omega arith)
    ]

-- what is read is open where a reading tells so
pub open-told : (reading : Reading) (bytes : List ℕ) (given : List RawMessage) → HasRead reading bytes given → is_open reading.framing bytes ≡ has_open reading
open-told reading bytes given h = rw (← h.reads.left) refl

-- a CR at the end is at fault
faulty-return : (framing : Framing) (bytes : List ℕ) (given : List RawMessage) (segments : List (List ℕ)) (text : List ℕ) (fault : FrameFault)
    → Reads framing bytes given segments text → HoldsReturn framing bytes → fault.at + 1 ≡ length bytes → fault.kind ≡ BadByte → Frames framing bytes given (Some fault)
faulty-return Marks bytes given segments text fault h held at kind = absurd held
faulty-return Lines bytes given segments text fault h held at kind =
    let wrong : kind_at Lines (bytes ++ []) fault.at ≡ Some BadByte = return-kind bytes [] fault.at at held (λ e. absurd (omega (arith, e))) in (
      inl record {
        within = omega (arith, at);
        kind = rw kind (rw append-nil at wrong);
        first = λ i before within. h.clear i (within, λ _. omega (arith, at));
      },
      ended-before_return bytes fault.at given at held h.ended,
    )

pub faulty-before : (reading : Reading) (fault : FrameFault) → IsSafe reading → holds_return reading ≡ true → fault.at ≡ reading.at - 1 → fault.kind ≡ BadByte → IsFaulty reading fault
faulty-before reading fault safe holds at kind bytes given h =
    let held = held-from reading.framing reading.last bytes h.last holds in
    let some : 1 ≤ reading.at = safe.held holds in
    faulty-return reading.framing bytes given reading.segments reading.text fault h.reads held (omega (arith, h.at)) kind

-- the length is at fault
faulty-length : (framing : Framing) (bytes : List ℕ) (given : List RawMessage) (segments : List (List ℕ)) (text : List ℕ) (fault : FrameFault)
    → Reads framing bytes given segments text → ¬ HoldsReturn framing bytes → fault.at ≡ length bytes → kind_at_end framing bytes ≡ Some fault.kind → Frames framing bytes given (Some fault)
faulty-length framing bytes given segments text fault h free at kind = (
  inr record { at_end = at; kind = kind; clear = clear-whole framing bytes h.clear free },
  rw (at, take_all (length bytes) bytes (omega arith)) h.ended,
)

-- lines of which the end would end one too many
too_many : (framing : Framing) (bytes : List ℕ) → framing ≡ Lines → is_open framing bytes ≡ true → 65536 ≤ count_by (is_ending framing) bytes → kind_at_end framing bytes ≡ Some TooMany
too_many Marks bytes e o many = absurd cc
too_many Lines bytes e o many = let m : nat_le 65536 (count_by (is_ending Lines) bytes) ≡ true = le-leb 65536 _ many in rw (o, m) refl

pub faulty-many : (reading : Reading) (fault : FrameFault) → holds_return reading ≡ false → has_open reading ≡ true → reading.framing ≡ Lines → 65536 ≤ reading.given → fault.at ≡ reading.at → fault.kind ≡ TooMany → IsFaulty reading fault
faulty-many reading fault holds some lines many at kind bytes given h =
    let free = free-told reading.framing reading.last bytes h.last holds in
    let count : 65536 ≤ count_by (is_ending reading.framing) bytes = omega (arith, h.messages, h.reads.endings) in
    faulty-length reading.framing bytes given reading.segments reading.text fault h.reads free (at ∙ h.at) (rw kind (too_many reading.framing bytes lines (open-told reading bytes given h ∙ some) count))

-- nothing is open
sound-none : (framing : Framing) (bytes : List ℕ) (given : List RawMessage) (segments : List (List ℕ)) (text : List ℕ) → Reads framing bytes given segments text → ¬ HoldsReturn framing bytes
    → is_open framing bytes ≡ false → Frames framing bytes given None
sound-none Marks bytes given segments text h free none = (record { clear = clear-whole Marks bytes h.clear free; sound_end = rw none refl }, h.ended)
sound-none Lines bytes given segments text h free none = (record { clear = clear-whole Lines bytes h.clear free; sound_end = rw none refl }, rw none h.ended)

pub whole-none : (reading : Reading) (before : List RawMessage) → holds_return reading ≡ false → has_open reading ≡ false → IsWhole reading before before
whole-none reading before holds none bytes given h =
    let free = free-told reading.framing reading.last bytes h.last holds in
    ([], sym (append-nil before), rw (append-nil given) (sound-none reading.framing bytes given reading.segments reading.text h.reads free (open-told reading bytes given h ∙ none)))

-- the end of the input ends a line
right-end : (bytes : List ℕ) → count_by (is_ending Lines) bytes < 65536 → kind_of Lines bytes 10 [] ≡ None
right-end bytes few = let m : nat_le 65536 (count_by (is_ending Lines) bytes) ≡ false = lt-leb 65536 _ few in rw m refl

sound-last : (framing : Framing) (bytes : List ℕ) (given : List RawMessage) (segments : List (List ℕ)) (text : List ℕ) → framing ≡ Lines → Reads framing bytes given segments text → ¬ HoldsReturn framing bytes
    → is_open framing bytes ≡ true → length given < 65536 → Frames framing bytes (given ++ record { segments = segments ++ text ∷ []; end = Emi } ∷ []) None
sound-last Marks bytes given segments text e h free some few = absurd cc
sound-last Lines bytes given segments text e h free some few =
    let count : count_by (is_ending Lines) bytes < 65536 = omega (arith, h.endings) in
    let m : nat_le 65536 (count_by (is_ending Lines) bytes) ≡ false = lt-leb 65536 _ count in
    let message : RawMessage = record { segments = segments ++ text ∷ []; end = Emi } in
    let last = reads-end Lines bytes given segments text 10 message h (λ _. right-end bytes count) refl refl refl (end-segments Lines 10 segments text Emi refl h.alone) in (
      record { clear = clear-whole Lines bytes h.clear free; sound_end = rw (some, m) refl },
      rw some last.ended,
    )

pub whole-last : (reading : Reading) (before after : List RawMessage) → holds_return reading ≡ false → has_open reading ≡ true → reading.framing ≡ Lines → reading.given < 65536
    → after ≡ before ++ open_message reading Emi ∷ [] → IsWhole reading before after
whole-last reading before after holds some lines few e bytes given h =
    let free = free-told reading.framing reading.last bytes h.last holds in
    (open_message reading Emi ∷ [], e, sound-last reading.framing bytes given reading.segments reading.text lines h.reads free (open-told reading bytes given h ∙ some) (omega (arith, h.messages)))
