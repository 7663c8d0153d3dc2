-- An input has one end.
use Rattle.std.proofs.Common.{◌≡◌, inl, inr, ℕ, List, length, take, Some, None, refl, ap, subst, arith}
use Rattle.com_msg.specs.declared.message.RawMessage.{RawMessage}
use Rattle.com_msg.specs.declared.framing.Framing.{Framing}
use Rattle.com_msg.specs.declared.framing.FrameFault.{FrameFault}
use Rattle.com_lines.specs.Frames.{AreEnded, Finished, IsFirstFault, IsClear, IsStopped}
use Rattle.com_lines.proofs.Standing.{one-fault}
use Rattle.com_lines.proofs.Unique.{ended-unique, frames-unique}
use Rattle.com_events.specs.declared.call.EndReason.{EndReason}
use Rattle.com_events.specs.declared.call.EndReason.TheVariants as finish
use Rattle.com_feed.specs.Fed.{Gives, looked_at}

clear-unfaulty : (framing : Framing) (bytes : List ℕ) (fault : FrameFault) → IsClear framing bytes (length bytes) → IsFirstFault framing bytes fault → ⊥
clear-unfaulty framing bytes fault h k = let none = h fault.at k.within k.within in cc (k.kind)

finished-unique : (framing : Framing) (bytes : List ℕ) (ms ns : List RawMessage) → Finished framing bytes ms → Finished framing bytes ns → ms ≡ ns
finished-unique framing bytes ms ns (inl h) (inl k) = ended-unique framing bytes ms ns h.1 k.1
finished-unique framing bytes ms ns (inl h) (inr k) = absurd (clear-unfaulty framing bytes k.0 h.0 k.1)
finished-unique framing bytes ms ns (inr h) (inl k) = absurd (clear-unfaulty framing bytes h.0 k.0 h.1)
finished-unique framing bytes ms ns (inr h) (inr k) =
    let same = one-fault framing bytes h.0 k.0 h.1 k.1 in
    let there : AreEnded framing (take k.0.at bytes) ms = subst (λ (f : FrameFault). AreEnded framing (take f.at bytes) ms) same h.2 in
    ended-unique framing (take k.0.at bytes) ms ns there k.2

stopped-unique : (framing : Framing) (bytes : List ℕ) (ms ns : List RawMessage) (fault other : FrameFault) → IsStopped framing bytes ms fault → IsStopped framing bytes ns other → (fault ≡ other) × (ms ≡ ns)
stopped-unique framing bytes ms ns fault other h k =
    let same = one-fault framing bytes fault other h.settled.first_fault k.settled.first_fault in
    let there : AreEnded framing (take other.at bytes) ms = subst (λ (f : FrameFault). AreEnded framing (take f.at bytes) ms) same h.ended in
    (same, ended-unique framing (take other.at bytes) ms ns there k.ended)

pub gives-unique : (framing : Framing) (bytes : List ℕ) (reason other : EndReason) (ms ns : List RawMessage) → Gives framing bytes None reason ms → Gives framing bytes None other ns → (reason ≡ other) × (ms ≡ ns)
gives-unique framing bytes finish.End finish.End ms ns h k = (refl, (frames-unique framing bytes ms ns None None h.1 k.1).0)
gives-unique framing bytes finish.End (finish.Frame fault) ms ns h (inl k) = let both = frames-unique framing bytes ms ns None (Some fault) h.1 k.1 in let never : ⊥ = cc (both.1) in absurd never
gives-unique framing bytes finish.End (finish.Frame fault) ms ns h (inr k) = let a = h.0 in let b = k.0 in let never : ⊥ = omega arith in absurd never
gives-unique framing bytes finish.End finish.Long ms ns h k = let a = h.0 in let b = k.longer in let never : ⊥ = omega arith in absurd never
gives-unique framing bytes (finish.Frame fault) finish.End ms ns (inl h) k = let both = frames-unique framing bytes ms ns (Some fault) None h.1 k.1 in let never : ⊥ = cc (both.1) in absurd never
gives-unique framing bytes (finish.Frame fault) finish.End ms ns (inr h) k = let a = h.0 in let b = k.0 in let never : ⊥ = omega arith in absurd never
gives-unique framing bytes (finish.Frame fault) (finish.Frame other) ms ns (inl h) (inl k) =
    let both = frames-unique framing bytes ms ns (Some fault) (Some other) h.1 k.1 in
    let same : fault ≡ other = cc (both.1) in
    (ap finish.Frame same, both.0)
gives-unique framing bytes (finish.Frame fault) (finish.Frame other) ms ns (inl h) (inr k) = let a = h.0 in let b = k.0 in let never : ⊥ = omega arith in absurd never
gives-unique framing bytes (finish.Frame fault) (finish.Frame other) ms ns (inr h) (inl k) = let a = h.0 in let b = k.0 in let never : ⊥ = omega arith in absurd never
gives-unique framing bytes (finish.Frame fault) (finish.Frame other) ms ns (inr h) (inr k) =
    let both = stopped-unique framing (looked_at bytes) ms ns fault other h.1 k.1 in
    (ap finish.Frame both.0, both.1)
gives-unique framing bytes (finish.Frame fault) finish.Long ms ns (inl h) k = let a = h.0 in let b = k.longer in let never : ⊥ = omega arith in absurd never
gives-unique framing bytes (finish.Frame fault) finish.Long ms ns (inr h) k = absurd (k.unsettled fault h.1.settled)
gives-unique framing bytes finish.Long finish.End ms ns h k = let a = k.0 in let b = h.longer in let never : ⊥ = omega arith in absurd never
gives-unique framing bytes finish.Long (finish.Frame fault) ms ns h (inl k) = let a = k.0 in let b = h.longer in let never : ⊥ = omega arith in absurd never
gives-unique framing bytes finish.Long (finish.Frame fault) ms ns h (inr k) = absurd (h.unsettled fault k.1.settled)
gives-unique framing bytes finish.Long finish.Long ms ns h k = (refl, finished-unique framing (looked_at bytes) ms ns h.ended k.ended)
gives-unique framing bytes finish.Fault other ms ns h k = absurd h
gives-unique framing bytes finish.Idle other ms ns h k = absurd h
gives-unique framing bytes reason finish.Fault ms ns h k = absurd k
gives-unique framing bytes reason finish.Idle ms ns h k = absurd k
