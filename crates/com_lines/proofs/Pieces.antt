-- Reading pieces one after another.
use Rattle.std.proofs.Common.{◌≡◌, ℕ, ◌+◌, ◌<◌, List, [], ◌∷◌, ◌++◌, length, get_or, take, drop, sym, ◌∙◌, arith, Some, None, append_assoc, length-append}
use Rattle.std.proofs.lemmas.List.{append-nil, drop_more, take-append-drop, take-append-le}
use Rattle.com_msg.specs.declared.message.RawMessage.{RawMessage}
use Rattle.com_msg.specs.declared.framing.Framing.{Framing}
use Rattle.com_msg.specs.declared.framing.Framing.TheVariants.{Marks, Lines}
use Rattle.com_msg.specs.declared.framing.FrameFault.{FrameFault}
use Rattle.com_lines.specs.declared.reading.Reading.{Reading}
use Rattle.com_lines.specs.Frames.{IsSettled, IsStopped}
use Rattle.com_lines.specs.inner.Readings.{IsContinued, IsCutOff, IsNext, IsStop}
use Rattle.com_lines.proofs.Places.{kind_at-kept, settled-kept}

-- a place before another is settled
settled-before : (framing : Framing) (bytes : List ℕ) (i place : ℕ) → i < place → place < length bytes → IsSettled framing bytes i
settled-before Marks bytes i place before within = omega arith
settled-before Lines bytes i place before within = (omega arith, λ _. omega arith)

-- a settled fault stays the first, whatever follows
pub stopped-more : (framing : Framing) (bytes more : List ℕ) (given : List RawMessage) (fault : FrameFault) → IsStopped framing bytes given fault → IsStopped framing (bytes ++ more) given fault
stopped-more framing bytes more given fault h =
    let first = h.settled.first_fault in
    record {
      settled = record {
        first_fault = record {
          within = omega (arith, first.within, length-append bytes more);
          kind = kind_at-kept framing bytes more fault.at h.settled.settled ∙ first.kind;
          first = λ i before _.
              let settled = settled-before framing bytes i fault.at before first.within in
              kind_at-kept framing bytes more i settled ∙ first.first i before (omega (arith, first.within));
        };
        settled = settled-kept framing bytes more fault.at h.settled.settled;
      };
      ended = rw (take-append-le fault.at bytes more (omega (arith, first.within))) h.ended;
    }

-- one byte, and the message that it ends
pub continued-some : (old : Reading) (byte : ℕ) (message : RawMessage) (new : Reading) (before after : List RawMessage) → IsNext old byte (Some message) new → after ≡ before ++ message ∷ []
    → IsContinued old (byte ∷ []) before new after
continued-some old byte message new before after next e bytes given h = (message ∷ [], e, next bytes given h)

pub continued-none : (old : Reading) (byte : ℕ) (new : Reading) (before : List RawMessage) → IsNext old byte None new → IsContinued old (byte ∷ []) before new before
continued-none old byte new before next bytes given h = ([], sym (append-nil before), next bytes given h)

-- no byte
pub continued-start : (reading : Reading) (before : List RawMessage) → IsContinued reading [] before reading before
continued-start reading before bytes given h = ([], sym (append-nil before), rw (append-nil bytes, append-nil given) h)

-- one piece after another
pub continued-more : (first second third : Reading) (piece more : List ℕ) (start middle last : List RawMessage) → IsContinued first piece start second middle → IsContinued second more middle third last
    → IsContinued first (piece ++ more) start third last
continued-more first second third piece more start middle last p q bytes given h =
    let (added, e, read) = p bytes given h in
    let (others, f, further) = q (bytes ++ piece) (given ++ added) read in
    (added ++ others, f ∙ rw e (append_assoc start added others), rw (append_assoc bytes piece more, append_assoc given added others) at further)

-- a fault after a piece
pub cut-off : (first second : Reading) (piece : List ℕ) (byte : ℕ) (rest : List ℕ) (start middle : List RawMessage) (fault : FrameFault) → IsContinued first piece start second middle → IsStop second byte fault
    → second.framing ≡ first.framing → IsCutOff first (piece ++ byte ∷ rest) start middle fault
cut-off first second piece byte rest start middle fault p stop same bytes given h =
    let (added, e, read) = p bytes given h in
    let stopped = rw same at (stop (bytes ++ piece) (given ++ added) read) in
    let all = stopped-more first.framing ((bytes ++ piece) ++ byte ∷ []) rest (given ++ added) fault stopped in
    let whole : ((bytes ++ piece) ++ byte ∷ []) ++ rest ≡ bytes ++ (piece ++ byte ∷ rest) = simp append_assoc in
    (added, e, rw whole at all)

-- a piece up to a byte, the byte, and the rest
pub piece-at : (piece : List ℕ) (i byte : ℕ) → i < length piece → byte ≡ get_or piece i 0 → take i piece ++ byte ∷ drop (i + 1) piece ≡ piece
piece-at piece i byte within e = rw (e, ← drop_more piece i 0 within) (take-append-drop i piece)
