-- One more entry of a terminal's own.
use Rattle.std.proofs.Common.{◌≡◌, ◌≢◌, inl, inr, ℕ, ◌+◌, ◌-◌, ◌≤◌, List, [], ◌∷◌, ◌++◌, length, get_or, take, refl, sym, ap, subst, ◌∙◌, append_assoc, arith, length-append}
use Rattle.std.specs.Prelude.{IsFalse, Option}
use Rattle.std.proofs.Math.Seq.{take-append-add, take-append_seam}
use Rattle.std.proofs.lemmas.Bool.{cases_lt}
use Rattle.std.proofs.lemmas.List.{append-nil, take_all, get_or_at}
use Rattle.std.proofs.lemmas.List.Elements.{All-append, All-cons, All-get_or, All-nil}
use Rattle.com_msg.specs.Stamp.{Moment}
use Rattle.com_msg.specs.declared.message.RawMessage.{RawMessage}
use Rattle.com_msg.specs.declared.framing.Framing.{Framing}
use Rattle.com_msg.specs.declared.framing.FrameFault.{FrameFault}
use Rattle.com_io.specs.Files.{file_limit}
use Rattle.com_lines.specs.Framers.{Framed, HasFaulted, IsGoing, StandsFor}
use Rattle.com_lines.specs.declared.framer.State.TheVariants.{Going, Faulted}
use Rattle.com_lines.specs.Frames.{Finished, IsStopped}
use Rattle.com_lines.proofs.Pieces.{stopped-more}
use Rattle.com_lines.proofs.Standing.{stands-at}
use Rattle.com_events.specs.declared.call.Party.{Party}
use Rattle.com_events.specs.declared.call.Call.{Call}
use Rattle.com_events.specs.declared.call.Call.TheVariants.{Arrive}
use Rattle.com_events.specs.declared.call.EndReason.{EndReason}
use Rattle.com_events.specs.declared.call.EndReason.TheVariants as finish
use Rattle.com_events.specs.declared.entry.Entry.{Entry}
use Rattle.com_events.specs.Fronts.{IsPrefixOf}
use Rattle.com_feed.specs.Fed.{AreFed, AreFirst, Fed, FedSoFar, Gives, HasNoEnd, IsBeingFed, IsUnsettled, arrivals_of, finished, held, is_end, looked_at, message_of}
use Rattle.com_feed.proofs.Fronts.{arrivals-append}
use Rattle.com_feed.proofs.Wholes.{first-none, gives-whole}

abbrev Continues : Entry → Type 0
Continues entry = IsFalse (is_end entry.call)

one-more : (entries : List Entry) (entry : Entry) → HasNoEnd entries → IsFalse (is_end entry.call) → HasNoEnd (entries ++ entry ∷ [])
one-more entries entry h e = All-append Continues entries (entry ∷ []) h (All-cons Continues entry [] e (All-nil Continues))

-- a terminal that has not ended is being fed
pub unended : (party : Party) (framing : Framing) (bytes : List ℕ) (lost : Option (List ℕ)) (entries : List Entry) → FedSoFar party framing bytes lost entries → HasNoEnd entries → IsBeingFed framing bytes entries
unended party framing bytes lost entries (inr h) no_end = h
unended party framing bytes lost entries (inl h) no_end =
    let last = All-get_or Continues entries (length h.before) (finished party h.reason) (rw h.ended (omega (arith, length-append h.before (finished party h.reason ∷ [])))) no_end in
    let at : get_or entries (length h.before) (finished party h.reason) ≡ finished party h.reason =
    ap (λ l. get_or l (length h.before) (finished party h.reason)) h.ended ∙ get_or_at h.before (finished party h.reason) [] (finished party h.reason) (length h.before) refl in
    let never : IsFalse (is_end (finished party h.reason).call) = subst Continues at last in
    absurd cc

pub fed-none : (framing : Framing) (bytes : List ℕ) → IsBeingFed framing bytes []
fed-none framing bytes = record { no_end = All-nil Continues; arrivals = first-none framing bytes }

-- ARRIVE of the next message
pub fed-arrives : (framing : Framing) (bytes : List ℕ) (entries : List Entry) (entry : Entry) (stamp : Moment) (message : RawMessage) → IsBeingFed framing bytes entries → entry.call ≡ Arrive stamp message
    → AreFirst framing bytes (arrivals_of entries ++ message ∷ []) → IsBeingFed framing bytes (entries ++ entry ∷ [])
fed-arrives framing bytes entries entry stamp message h e first =
    let one : arrivals_of (entry ∷ []) ≡ message ∷ [] = ap (λ (c : Call). message_of c ++ []) e in
    let all : arrivals_of (entries ++ entry ∷ []) ≡ arrivals_of entries ++ message ∷ [] = arrivals-append entries (entry ∷ []) ∙ ap (λ l. arrivals_of entries ++ l) one in
    let goes_on : IsFalse (is_end entry.call) = rw e refl in
    record { no_end = one-more entries entry h.no_end goes_on; arrivals = rw all first }

-- an entry that is no ARRIVE and no END
pub fed-goes_on : (framing : Framing) (bytes : List ℕ) (entries : List Entry) (entry : Entry) → IsFalse (is_end entry.call) → message_of entry.call ≡ []
    → IsBeingFed framing bytes entries → IsBeingFed framing bytes (entries ++ entry ∷ [])
fed-goes_on framing bytes entries entry goes_on none h =
    let same : arrivals_of (entries ++ entry ∷ []) ≡ arrivals_of entries = arrivals-append entries (entry ∷ []) ∙ (ap (λ l. arrivals_of entries ++ (l ++ [])) none ∙ append-nil (arrivals_of entries)) in
    record { no_end = one-more entries entry h.no_end goes_on; arrivals = rw same h.arrivals }

-- HELD
pub fed-held : (party : Party) (framing : Framing) (bytes : List ℕ) (entries : List Entry) → IsBeingFed framing bytes entries → IsBeingFed framing bytes (entries ++ held party ∷ [])
fed-held party framing bytes entries h = fed-goes_on framing bytes entries (held party) refl refl h

-- END for a reason for which a terminal ends by itself
pub fed-ends : (party : Party) (framing : Framing) (bytes : List ℕ) (lost : Option (List ℕ)) (reason : EndReason) (entries : List Entry) → Gives framing bytes lost reason (arrivals_of entries)
    → Fed party framing bytes lost (entries ++ finished party reason ∷ [])
fed-ends party framing bytes lost reason entries h = record { before = entries; reason = reason; ended = refl; are_fed = by reason h } where
  by : (reason : EndReason) → Gives framing bytes lost reason (arrivals_of entries) → AreFed party framing bytes lost reason entries
  by finish.End h = h
  by (finish.Frame fault) h = h
  by finish.Long h = h
  by finish.Fault h = h
  by finish.Idle h = absurd h

-- IDLE after HELD, with a message of the input that did not come in
pub fed-idle : (party : Party) (framing : Framing) (bytes : List ℕ) (lost : Option (List ℕ)) (entries : List Entry) (message : RawMessage) → AreFirst framing bytes (arrivals_of entries ++ message ∷ [])
    → Fed party framing bytes lost ((entries ++ held party ∷ []) ++ finished party finish.Idle ∷ [])
fed-idle party framing bytes lost entries message first =
    let same : arrivals_of (entries ++ held party ∷ []) ≡ arrivals_of entries = arrivals-append entries (held party ∷ []) ∙ append-nil (arrivals_of entries) in
    let behind = message ∷ first.prefix.0 in
    let whole : first.all ≡ arrivals_of entries ++ behind = first.prefix.1 ∙ append_assoc (arrivals_of entries) (message ∷ []) first.prefix.0 in
    let some : behind ≢ [] = λ e. absurd cc in
    record {
      before = entries ++ held party ∷ [];
      reason = finish.Idle;
      ended = refl;
      are_fed = record {
        reason = first.reason;
        all = first.all;
        gives = gives-whole framing bytes lost first.reason first.all first.gives;
        missing = (behind, rw same whole, some);
        earlier = entries;
        held = refl;
      };
    }

-- FRAME of a fault that is settled in what was read
pub gives-frame : (framing : Framing) (bytes : List ℕ) (lost : Option (List ℕ)) (got : List ℕ) (messages : List RawMessage) (fault : FrameFault) → IsPrefixOf got (looked_at bytes) → IsStopped framing got messages fault
    → Gives framing bytes lost (finish.Frame fault) messages
gives-frame framing bytes lost got messages fault front h =
    let stopped : IsStopped framing (looked_at bytes) messages fault = subst (λ l. IsStopped framing l messages fault) (sym front.1) (stopped-more framing got front.0 messages fault h) in
    elim (cases_lt file_limit (length bytes)) as (λ _. Gives framing bytes lost (finish.Frame fault) messages) [
      | inl long ↦ inr (long, stopped)
      | inr short ↦ inl (short, let whole = subst (λ l. IsStopped framing l messages fault) (take_all file_limit bytes short) stopped in (inl whole.settled.first_fault, whole.ended))
    ]

-- bytes that were read, within the limit, are looked at
pub read-looked_at : (got left : List ℕ) → length got ≤ file_limit → IsPrefixOf got (looked_at (got ++ left))
read-looked_at got left within =
    let n = file_limit - length got in
    let whole : length got + n ≡ file_limit = omega arith in
    (take n left, subst (λ m. take m (got ++ left) ≡ got ++ take n left) whole (take-append-add got left n))

-- up to the limit, they are all that is looked at
pub full-looked_at : (got left : List ℕ) → length got ≡ file_limit → looked_at (got ++ left) ≡ got
full-looked_at got left full = subst (λ m. take m (got ++ left) ≡ got) full (take-append_seam got left)

-- what a framer has finished that goes on, and that no fault is settled
pub going-finished : (framing : Framing) (framer : Framed) (got : List ℕ) (given : List RawMessage) → StandsFor framing framer got given → IsGoing framer → Finished framing got given × IsUnsettled framing got
going-finished framing framer got given h going =
    let stands = stands-at framing framer Going framer.reading got given going refl h in
    let reads = rw stands.0 at stands.1.reads in
    (stands.2, λ fault settled. let none = reads.clear fault.at settled.settled in let kind = settled.first_fault.kind in absurd cc)

-- and of one that has answered a fault
pub faulted-stopped : (framing : Framing) (framer : Framed) (got : List ℕ) (given : List RawMessage) (fault : FrameFault) → StandsFor framing framer got given → HasFaulted framer fault → IsStopped framing got given fault
faulted-stopped framing framer got given fault h faulted = (stands-at framing framer (Faulted fault) framer.reading got given faulted refl h).0
