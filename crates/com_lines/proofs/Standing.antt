-- What a framer stands for, after each answer.
use Rattle.std.proofs.Common.{◌≡◌, inl, inr, ◌↔◌, ℕ, ◌+◌, ◌-◌, ◌≤◌, List, [], ◌∷◌, ◌++◌, length, refl, sym, ap, ◌∙◌, arith, Some, None, Err, Ok}
use Rattle.std.specs.Prelude.{OnOk, Result}
use Rattle.std.proofs.lemmas.Bool.{cases_eq, cases_order}
use Rattle.std.proofs.lemmas.List.{append-nil}
use Rattle.com_msg.specs.declared.message.RawMessage.{RawMessage}
use Rattle.com_msg.specs.declared.framing.Framing.{Framing}
use Rattle.com_msg.specs.declared.framing.Framing.TheVariants.{Marks, Lines}
use Rattle.com_msg.specs.declared.framing.FrameFault.{FrameFault}
use Rattle.com_msg.specs.declared.framing.FrameKind.TheVariants.{BadByte}
use Rattle.com_lines.specs.declared.reading.FeedError.{FeedError}
use Rattle.com_lines.specs.declared.reading.FeedError.TheVariants.{Fault, Memory}
use Rattle.com_lines.specs.declared.reading.Reading.{Reading}
use Rattle.com_lines.specs.declared.framer.State.{State}
use Rattle.com_lines.specs.declared.framer.State.TheVariants.{Going, Faulted}
use Rattle.com_lines.specs.Bytes.{last_of}
use Rattle.com_lines.specs.Faults.{kind_at}
use Rattle.com_lines.specs.Frames.{Finished, Frames, IsFirstFault, IsSettledFault, IsStopped}
use Rattle.com_lines.specs.Framers.{Framed, IsMemory, StandsFor, StandsIn, state_after}
use Rattle.com_lines.specs.inner.Reads.{IsClearSoFar, Reads}
use Rattle.com_lines.specs.inner.Readings.{HasRead, IsContinued, IsCutOff, IsFaulty, IsWhole}
use Rattle.com_lines.proofs.Ends.{clear-whole}
use Rattle.com_lines.proofs.Pieces.{stopped-more}
use Rattle.com_lines.proofs.Stops.{ended-before_return, return-kind}

-- the fault of a CR that stands last
last-return : (bytes : List ℕ) → last_of bytes ≡ 13 → 1 ≤ length bytes
last-return [] e = absurd (omega (arith, e))
last-return (byte ∷ bytes) e = omega arith

-- what is read is finished
finished-lines : (bytes : List ℕ) (given : List RawMessage) (segments : List (List ℕ)) (text : List ℕ) → Reads Lines bytes given segments text → Finished Lines bytes given
finished-lines bytes given segments text h =
    elim (cases_eq (last_of bytes) 13) as (λ _. Finished Lines bytes given) [
      | inl held ↦
          let some = last-return bytes held in
          let at : length bytes - 1 + 1 ≡ length bytes = omega arith in
          let wrong : kind_at Lines (bytes ++ []) (length bytes - 1) ≡ Some BadByte = return-kind bytes [] (length bytes - 1) at held (λ e. absurd (omega (arith, e))) in
          let fault : FrameFault = record { at = length bytes - 1; kind = BadByte } in
          inr (
            fault,
            record {
              within = omega arith;
              kind = rw append-nil at wrong;
              first = λ i before within. h.clear i (within, λ _. omega arith);
            },
            ended-before_return bytes (length bytes - 1) given at held h.ended,
          )
      | inr free ↦ inl (clear-whole Lines bytes h.clear free, h.ended)
    ]

pub finished-read : (framing : Framing) (bytes : List ℕ) (given : List RawMessage) (segments : List (List ℕ)) (text : List ℕ) → Reads framing bytes given segments text → Finished framing bytes given
finished-read Marks bytes given segments text h = inl (clear-whole Marks bytes h.clear (λ held. held), h.ended)
finished-read Lines bytes given segments text h = finished-lines bytes given segments text h

-- the messages before a settled fault are finished
pub finished-stopped : (framing : Framing) (bytes : List ℕ) (given : List RawMessage) (fault : FrameFault) → IsStopped framing bytes given fault → Finished framing bytes given
finished-stopped framing bytes given fault h = inr (fault, h.settled.first_fault, h.ended)

pub same-fault : (fault other : FrameFault) → fault.at ≡ other.at → fault.kind ≡ other.kind → fault ≡ other
same-fault fault other at kind =
    let first : fault ≡ record { at = other.at; kind = fault.kind } = ap (λ n. record { at = n; kind = fault.kind }) at in
    let second : record { at = other.at; kind = fault.kind } ≡ other = ap (λ k. record { at = other.at; kind = k }) kind in
    first ∙ second

-- there is one first fault
pub one-fault : (framing : Framing) (bytes : List ℕ) (fault other : FrameFault) → IsFirstFault framing bytes fault → IsFirstFault framing bytes other → fault ≡ other
one-fault framing bytes fault other h k =
    elim (cases_order fault.at other.at) as (λ _. fault ≡ other) [
      | inl same ↦ let one : Some fault.kind ≡ Some other.kind = sym h.kind ∙ (ap (kind_at framing bytes) same ∙ k.kind) in let kinds : fault.kind ≡ other.kind = cc in same-fault fault other same kinds
      | inr (inl before) ↦ let none = k.first fault.at before h.within in let no : ⊥ = cc (h.kind) in absurd no
      | inr (inr behind) ↦ let none = h.first other.at behind k.within in let no : ⊥ = cc (k.kind) in absurd no
    ]

-- what a reading stands for
pub stands-read : (framing : Framing) (reading : Reading) (bytes : List ℕ) (given : List RawMessage) → reading.framing ≡ framing → HasRead reading bytes given → StandsIn Going framing reading bytes given
stands-read framing reading bytes given same h = (same, h, rw same at (finished-read reading.framing bytes given reading.segments reading.text h.reads))

-- after a piece
pub feed-stands : (framing : Framing) (old new : Reading) (piece : List ℕ) (before after : List RawMessage) (answer : Result (Unit {0}) FeedError) (bytes : List ℕ) (given : List RawMessage)
    → StandsIn Going framing old bytes given → OnOk answer (new.framing ≡ old.framing) → OnOk answer (IsContinued old piece before new after)
    → ((fault : FrameFault) → answer ≡ Err (Fault fault) → IsCutOff old piece before after fault) → (IsMemory answer → after ≡ before)
    → (added : List RawMessage) × (after ≡ before ++ added) × StandsIn (state_after answer) framing new (bytes ++ piece) (given ++ added)
feed-stands framing old new piece before after (Ok done) bytes given h same continued cut memory =
    let (added, e, read) = continued bytes given h.1 in
    (added, e, stands-read framing new (bytes ++ piece) (given ++ added) (same ∙ h.0) read)
feed-stands framing old new piece before after (Err (Fault fault)) bytes given h same continued cut memory =
    let (added, e, stopped) = cut fault refl bytes given h.1 in
    let at = rw h.0 at stopped in
    (added, e, (at, finished-stopped framing (bytes ++ piece) (given ++ added) fault at))
feed-stands framing old new piece before after (Err (Memory error)) bytes given h same continued cut memory = ([], memory tt ∙ sym (append-nil before), tt)

-- an answer of a fault, and what is settled
pub feed-fault : (framing : Framing) (old new : Reading) (piece : List ℕ) (before after : List RawMessage) (answer : Result (Unit {0}) FeedError) (bytes : List ℕ) (given : List RawMessage)
    → StandsIn Going framing old bytes given → OnOk answer (new.framing ≡ old.framing) → OnOk answer (IsContinued old piece before new after)
    → ((fault : FrameFault) → answer ≡ Err (Fault fault) → IsCutOff old piece before after fault)
    → (fault : FrameFault) → ¬ IsMemory answer → (answer ≡ Err (Fault fault)) ↔ IsSettledFault framing (bytes ++ piece) fault
feed-fault framing old new piece before after (Ok done) bytes given h same continued cut fault free =
    let (added, e, read) = continued bytes given h.1 in
    let clear : IsClearSoFar framing (bytes ++ piece) = rw (same ∙ h.0) at read.reads.clear in
    (λ e. absurd cc, λ settled. let none = clear fault.at settled.settled in let no : ⊥ = cc (settled.first_fault.kind) in absurd no)
feed-fault framing old new piece before after (Err (Fault found)) bytes given h same continued cut fault free =
    let (added, e, stopped) = cut found refl bytes given h.1 in
    let at = rw h.0 at stopped in (
      λ e. let is : found ≡ fault = cc in rw is at at.settled,
      λ settled. ap (λ f. Err (Fault f)) (one-fault framing (bytes ++ piece) found fault at.settled.first_fault settled.first_fault),
    )
feed-fault framing old new piece before after (Err (Memory error)) bytes given h same continued cut fault free = absurd (free tt)

-- after a fault, what follows changes nothing
pub again-stands : (framing : Framing) (reading : Reading) (piece : List ℕ) (before : List RawMessage) (fault : FrameFault) (bytes : List ℕ) (given : List RawMessage)
    → StandsIn (Faulted fault) framing reading bytes given
    → (added : List RawMessage) × (before ≡ before ++ added) × StandsIn (Faulted fault) framing reading (bytes ++ piece) (given ++ added)
again-stands framing reading piece before fault bytes given h =
    let more = stopped-more framing bytes piece given fault h.0 in
    ([], sym (append-nil before), rw append-nil (more, finished-stopped framing (bytes ++ piece) given fault more))

pub again-fault : (framing : Framing) (reading : Reading) (piece : List ℕ) (found : FrameFault) (bytes : List ℕ) (given : List RawMessage) → StandsIn (Faulted found) framing reading bytes given
    → (answer : Result (Unit {0}) FeedError) → answer ≡ Err (Fault found)
    → (fault : FrameFault) → (answer ≡ Err (Fault fault)) ↔ IsSettledFault framing (bytes ++ piece) fault
again-fault framing reading piece found bytes given h answer is fault =
    let more = stopped-more framing bytes piece given found h.0 in (
      λ e. let same : found ≡ fault = cc in rw same at more.settled,
      λ settled. is ∙ ap (λ f. Err (Fault f)) (one-fault framing (bytes ++ piece) found fault more.settled.first_fault settled.first_fault),
    )

-- a framer seen by its parts
pub stands-at : (framing : Framing) (framer : Framed) (state : State) (reading : Reading) (bytes : List ℕ) (given : List RawMessage) → framer.state ≡ state → framer.reading ≡ reading
    → StandsFor framing framer bytes given → StandsIn state framing reading bytes given
stands-at framing framer state reading bytes given e f h = rw (← e, ← f) h

-- the end of the input
pub finish-whole : (framing : Framing) (old : Reading) (before after : List RawMessage) (bytes : List ℕ) (given : List RawMessage) → IsWhole old before after → StandsIn Going framing old bytes given
    → (added : List RawMessage) × (after ≡ before ++ added) × Frames framing bytes (given ++ added) None
finish-whole framing old before after bytes given whole h =
    let (added, e, frames) = whole bytes given h.1 in
    (added, e, rw h.0 at frames)

pub finish-faulty : (framing : Framing) (old : Reading) (fault : FrameFault) (bytes : List ℕ) (given : List RawMessage) → IsFaulty old fault → StandsIn Going framing old bytes given → Frames framing bytes given (Some fault)
finish-faulty framing old fault bytes given faulty h = rw h.0 at (faulty bytes given h.1)

pub again-faulty : (framing : Framing) (reading : Reading) (fault : FrameFault) (bytes : List ℕ) (given : List RawMessage) → StandsIn (Faulted fault) framing reading bytes given → Frames framing bytes given (Some fault)
again-faulty framing reading fault bytes given h = (inl h.0.settled.first_fault, h.0.ended)
