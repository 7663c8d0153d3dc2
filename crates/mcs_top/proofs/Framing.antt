-- From what a framer answers to how an input ends.
use Rattle.std.proofs.Common.{◌≡◌, ℕ, ◌≤◌, ◌<◌, List, [], ◌++◌, length, take, sym, ◌∙◌, ap, inl, inr, arith, refl, take_all}
use Rattle.std.specs.Prelude.{◌⊎◌, Result, Ok, Err, Some, None, min}
use Rattle.std.proofs.lemmas.Bool.{cases_lt}
use Rattle.com_msg.specs.declared.message.RawMessage.{RawMessage}
use Rattle.com_msg.specs.declared.framing.Framing.{Framing}
use Rattle.com_msg.specs.declared.framing.FrameFault.{FrameFault}
use Rattle.com_lines.specs.declared.reading.FeedError.{FeedError}
use Rattle.com_lines.specs.declared.reading.FeedError.TheVariants as feed
use Rattle.com_lines.specs.declared.framer.State.TheVariants.{Going, Faulted}
use Rattle.com_lines.specs.Framers.{Framed, StandsFor, StandsIn, IsGoing, HasFaulted}
use Rattle.com_lines.specs.Frames.{Frames, IsSettledFault, IsStopped, Finished}
use Rattle.com_io.specs.Files.{file_limit}
use Rattle.mcs_top.specs.declared.show.Ending.{Ending}
use Rattle.mcs_top.specs.declared.show.Ending.TheVariants.{End, Fault, Long}
use Rattle.mcs_top.specs.Show.{EndsSo, message_lines, ending_line}

finished : (framing : Framing) (framer : Framed) (bytes : List ℕ) (given : List RawMessage) → IsGoing framer → StandsFor framing framer bytes given → Finished framing bytes given
finished framing framer bytes given going stands =
    let stands : StandsIn Going framing framer.reading bytes given = rw going at stands in stands.2

stopped : (framing : Framing) (framer : Framed) (bytes : List ℕ) (given : List RawMessage) (fault : FrameFault) → HasFaulted framer fault → StandsFor framing framer bytes given → IsStopped framing bytes given fault
stopped framing framer bytes given fault faulted stands =
    let stands : StandsIn (Faulted fault) framing framer.reading bytes given = rw faulted at stands in stands.0

-- what the framer stands for when it has had the first piece
pub stands_for : (framing : Framing) (framer : Framed) (piece : List ℕ) (before after : List RawMessage) → before ≡ [] → (added : List RawMessage) × (after ≡ before ++ added) × StandsFor framing framer piece added
    → StandsFor framing framer piece after
stands_for framing framer piece before after empty h =
    let all : after ≡ h.0 = rw empty at h.1 in rw all h.2

-- the input goes on past the limit without a settled fault
pub ends_long : (framing : Framing) (input piece : List ℕ) (messages : List RawMessage) (framer : Framed) → file_limit < length input → piece ≡ take file_limit input → IsGoing framer
    → StandsFor framing framer piece messages → ((fault : FrameFault) → IsSettledFault framing piece fault → ⊥) → EndsSo framing input messages Long
ends_long framing input piece messages framer long is going stands free =
    (long, rw is at free, rw is at (finished framing framer piece messages going stands))

fault_by_length : (framing : Framing) (input : List ℕ) (messages : List RawMessage) (fault : FrameFault) → IsStopped framing (take file_limit input) messages fault
    → (file_limit < length input) ⊎ (length input ≤ file_limit) → EndsSo framing input messages (Fault fault)
fault_by_length framing input messages fault h (inl long) = inr (long, h)
fault_by_length framing input messages fault h (inr short) =
    let whole : IsStopped framing input messages fault = rw (take_all file_limit input short) at h in
    inl (short, (inl whole.settled.first_fault, whole.ended))

-- a fault is settled
pub ends_faulty : (framing : Framing) (input piece : List ℕ) (messages : List RawMessage) (framer : Framed) (fault : FrameFault) → piece ≡ take file_limit input → HasFaulted framer fault
    → StandsFor framing framer piece messages → EndsSo framing input messages (Fault fault)
ends_faulty framing input piece messages framer fault is faulted stands =
    let h : IsStopped framing (take file_limit input) messages fault = rw is at (stopped framing framer piece messages fault faulted stands) in
    fault_by_length framing input messages fault h (cases_lt file_limit (length input))

-- the first piece is the whole input
pub whole_piece : (input piece : List ℕ) → length input ≤ file_limit → piece ≡ take file_limit input → piece ≡ input
whole_piece input piece short is = is ∙ take_all file_limit input short

-- the whole input is sound
pub ends_end : (framing : Framing) (input piece : List ℕ) (before after : List RawMessage) → length input ≤ file_limit → piece ≡ input → (added : List RawMessage) × (after ≡ before ++ added) × Frames framing piece (before ++ added) None
    → EndsSo framing input after End
ends_end framing input piece before after short whole h =
    let all : Frames framing piece after None = rw h.1 h.2 in
    (short, rw whole at all)

-- a fault of the whole input
pub ends_bad : (framing : Framing) (input piece : List ℕ) (messages : List RawMessage) (fault : FrameFault) → length input ≤ file_limit → piece ≡ input → Frames framing piece messages (Some fault)
    → EndsSo framing input messages (Fault fault)
ends_bad framing input piece messages fault short whole h = inl (short, rw whole at h)

-- a front that is as long as the list, or as a limit
front_by_length : (n m : ℕ) (xs : List ℕ) → n ≡ min (length xs) m → (m < length xs) ⊎ (length xs ≤ m) → take n xs ≡ take m xs
front_by_length n m xs is (inl long) = let same : n ≡ m = omega (arith, is, long) in rw same refl
front_by_length n m xs is (inr short) = take_all n xs (omega (arith, is, short)) ∙ sym (take_all m xs short)

pub least_front : (n m : ℕ) (xs : List ℕ) → n ≡ min (length xs) m → take n xs ≡ take m xs
least_front n m xs is = front_by_length n m xs is (cases_lt m (length xs))

-- an answer that is Ok is no fault
abbrev the_ok : Result (Unit {0}) FeedError
the_ok = Ok tt

pub no_fault : {fault : FrameFault} → the_ok ≡ Err (feed.Fault fault) → ⊥
no_fault same = absurd (cc same)

-- the text that shows an input, from its parts
pub shown_text : (messages slice : List RawMessage) (start lines text : List ℕ) (ending : Ending) → start ≡ [] → slice ≡ messages → lines ≡ start ++ message_lines 1 slice → text ≡ lines ++ ending_line ending
    → text ≡ message_lines 1 messages ++ ending_line ending
shown_text messages slice start lines text ending empty same first all = all ∙ ap (λ l. l ++ ending_line ending) (first ∙ rw (empty, same) refl)
