-- Every input has an end, and what a part of it has finished comes first.
use Rattle.std.proofs.Common.{◌≡◌, ◌⊎◌, inl, inr, ℕ, zero, suc, ◌+◌, ◌<◌, ◌≤◌, Bool, true, false, List, [], ◌∷◌, ◌++◌, length, take, drop, get_or, refl, sym, ap, subst, ◌∙◌, arith, append_assoc, length-append, Some, None}
use Rattle.std.specs.Prelude.{All, Option}
use Rattle.std.proofs.lemmas.Bool.{cases_eq, cases_lt}
use Rattle.std.proofs.lemmas.List.{append-nil, take-append-drop, take-append-le, take-take, take_all}
use Rattle.std.proofs.lemmas.List.Elements.{All-append, All-cons, All-nil}
use Rattle.com_msg.specs.declared.message.RawMessage.{RawMessage}
use Rattle.com_msg.specs.declared.framing.Framing.{Framing}
use Rattle.com_msg.specs.declared.framing.Framing.TheVariants.{Marks, Lines}
use Rattle.com_msg.specs.declared.framing.FrameFault.{FrameFault}
use Rattle.com_msg.specs.declared.framing.FrameKind.{FrameKind}
use Rattle.com_msg.specs.declared.framing.FrameKind.TheVariants.{BadByte}
use Rattle.com_io.specs.Files.{file_limit}
use Rattle.com_lines.specs.Faults.{is_open, kind_at, kind_at_end}
use Rattle.com_lines.specs.Frames.{AreEnded, Finished, Frames, IsClear, IsFirstFault, IsSettled, with_end}
use Rattle.com_lines.proofs.Places.{kind_at-kept}
use Rattle.com_lines.proofs.Runs.{last_of-get}
use Rattle.com_lines.proofs.Standing.{finished-stopped, one-fault}
use Rattle.com_lines.proofs.Stops.{return-kind}
use Rattle.com_lines.proofs.Unique.{ended-unique}
use Rattle.com_events.specs.declared.call.EndReason.{EndReason}
use Rattle.com_events.specs.declared.call.EndReason.TheVariants as finish
use Rattle.com_events.specs.Fronts.{IsPrefixOf}
use Rattle.com_feed.specs.Fed.{AreFirst, Gives, IsUnsettled, looked_at}
use Rattle.com_feed.proofs.Messages.{IsKnown, clear-known, ended-exist, ended-more}

-- the bytes up to a place are free of fault, or one of them is the first that is at fault
first_fault : (framing : Framing) (bytes : List ℕ) (n : ℕ) → n ≤ length bytes → IsClear framing bytes n ⊎ ((fault : FrameFault) × IsFirstFault framing bytes fault)
first_fault framing bytes zero le = inl (λ i before within. absurd (omega (arith, before)))
first_fault framing bytes (suc n) le = by (first_fault framing bytes n (omega arith)) (kind_at framing bytes n) refl where
  by : IsClear framing bytes n ⊎ ((fault : FrameFault) × IsFirstFault framing bytes fault) → (kind : Option FrameKind) → kind_at framing bytes n ≡ kind
      → IsClear framing bytes (suc n) ⊎ ((fault : FrameFault) × IsFirstFault framing bytes fault)
  by (inr found) kind e = inr found
  by (inl clear) (Some kind) e = inr (record { at = n; kind = kind }, record { within = omega arith; kind = e; first = clear })
  by (inl clear) None e = inl (λ i before within. elim (cases_lt i n) as (λ _. kind_at framing bytes i ≡ None) [
    | inl lt ↦ clear i lt within
    | inr ge ↦ let same : i ≡ n = omega arith in rw same e
  ])

-- bytes that are free of fault have messages
clear-messages : (framing : Framing) (bytes : List ℕ) (place : ℕ) → place ≤ length bytes → IsClear framing bytes place → (messages : List RawMessage) × AreEnded framing (take place bytes) messages
clear-messages framing bytes place le clear = ended-exist framing (take place bytes) (clear-known framing bytes place le clear)

-- whole bytes that are free of fault are known
whole-known : (framing : Framing) (bytes : List ℕ) → IsClear framing bytes (length bytes) → All (IsKnown framing) bytes
whole-known framing bytes clear = subst (All (IsKnown framing)) (take_all (length bytes) bytes (omega arith)) (clear-known framing bytes (length bytes) (omega arith) clear)

-- and so they are with the end of an open line
end-known : (framing : Framing) (bytes : List ℕ) → All (IsKnown framing) bytes → All (IsKnown framing) (with_end framing bytes)
end-known Marks bytes known = known
end-known Lines bytes known = by (is_open Lines bytes) refl where
  by : (o : Bool) → is_open Lines bytes ≡ o → All (IsKnown Lines) (with_end Lines bytes)
  by true o = rw o (All-append (IsKnown Lines) bytes (10 ∷ []) known (All-cons (IsKnown Lines) 10 [] refl (All-nil (IsKnown Lines))))
  by false o = rw o known

-- every input has messages and a verdict
pub frames-exist : (framing : Framing) (bytes : List ℕ) → (messages : List RawMessage) × (verdict : Option FrameFault) × Frames framing bytes messages verdict
frames-exist framing bytes = by (first_fault framing bytes (length bytes) (omega arith)) (kind_at_end framing bytes) refl where
  by : IsClear framing bytes (length bytes) ⊎ ((fault : FrameFault) × IsFirstFault framing bytes fault) → (kind : Option FrameKind) → kind_at_end framing bytes ≡ kind
      → (messages : List RawMessage) × (verdict : Option FrameFault) × Frames framing bytes messages verdict
  by (inr found) kind e =
      let m = clear-messages framing bytes found.0.at (omega (arith, found.1.within)) found.1.first in
      (m.0, Some found.0, (inl found.1, m.1))
  by (inl clear) None e =
      let m = ended-exist framing (with_end framing bytes) (end-known framing bytes (whole-known framing bytes clear)) in
      (m.0, None, (record { clear = clear; sound_end = e }, m.1))
  by (inl clear) (Some kind) e =
      let m = clear-messages framing bytes (length bytes) (omega arith) clear in
      (m.0, Some (record { at = length bytes; kind = kind }), (inr (record { at_end = refl; kind = e; clear = clear }), m.1))

-- a faulty place is settled, or it is a CR that stands last
settled-cases : (framing : Framing) (bytes : List ℕ) (place : ℕ) → place < length bytes → IsSettled framing bytes place ⊎ (¬ IsSettled framing bytes place)
settled-cases Marks bytes place within = inl within
settled-cases Lines bytes place within =
    elim (cases_eq (get_or bytes place 0) 13) as (λ _. IsSettled Lines bytes place ⊎ (¬ IsSettled Lines bytes place)) [
      | inr ne ↦ inl (within, λ e. absurd (ne e))
      | inl e ↦ elim (cases_lt (place + 1) (length bytes)) as (λ _. IsSettled Lines bytes place ⊎ (¬ IsSettled Lines bytes place)) [
        | inl more ↦ inl (within, λ _. more)
        | inr last ↦ inr (λ h. let long = h.1 e in omega (arith, long))
      ]
    ]

-- the end of an input that is longer than what is looked at
record IsCut (framing : Framing) (bytes : List ℕ) : Type 0 where
  reason : EndReason
  all : List RawMessage
  gives : Gives framing bytes None reason all

cut : (framing : Framing) (bytes : List ℕ) → file_limit < length bytes → IsCut framing bytes
cut framing bytes long = by (first_fault framing c (length c) (omega arith)) where
  c : List ℕ
  c = looked_at bytes

  too_long : (messages : List RawMessage) → IsUnsettled framing c → Finished framing c messages → IsCut framing bytes
  too_long messages free finished = record { reason = finish.Long; all = messages; gives = record { longer = long; unsettled = free; ended = finished } }

  by : IsClear framing c (length c) ⊎ ((fault : FrameFault) × IsFirstFault framing c fault) → IsCut framing bytes
  by (inl clear) =
      let m = ended-exist framing c (whole-known framing c clear) in
      too_long m.0 (λ fault h. let none = clear fault.at h.first_fault.within h.first_fault.within in let kind = h.first_fault.kind in absurd cc) (inl (clear, m.1))
  by (inr found) =
      let m = clear-messages framing c found.0.at (omega (arith, found.1.within)) found.1.first in
      elim (settled-cases framing c found.0.at found.1.within) as (λ _. IsCut framing bytes) [
        | inl settled ↦ record { reason = finish.Frame found.0; all = m.0; gives = inr (long, record { settled = record { first_fault = found.1; settled = settled }; ended = m.1 }) }
        | inr free ↦ too_long m.0 (λ fault h. free (subst (λ (f : FrameFault). IsSettled framing c f.at) (one-fault framing c fault found.0 h.first_fault found.1) h.settled)) (inr (found.0, found.1, m.1))
      ]

-- every input has an end: a reason and messages
pub ends-exist : (framing : Framing) (bytes : List ℕ) → (reason : EndReason) × (all : List RawMessage) × Gives framing bytes None reason all
ends-exist framing bytes =
    elim (cases_lt file_limit (length bytes)) as (λ _. (reason : EndReason) × (all : List RawMessage) × Gives framing bytes None reason all) [
      | inl long ↦ let c = cut framing bytes long in (c.reason, c.all, c.gives)
      | inr short ↦ let f = frames-exist framing bytes in by short f.0 f.1 f.2
    ]
  where
    by : length bytes ≤ file_limit → (messages : List RawMessage) (verdict : Option FrameFault) → Frames framing bytes messages verdict
        → (reason : EndReason) × (all : List RawMessage) × Gives framing bytes None reason all
    by short messages None h = (finish.End, messages, (short, h))
    by short messages (Some fault) h = (finish.Frame fault, messages, inl (short, h))

-- where reading bytes stops: at their end, or at the first place at fault
record StopsAt (framing : Framing) (bytes : List ℕ) : Type 0 where
  place : ℕ
  within : place ≤ length bytes
  clear : IsClear framing bytes place
  stops : (place ≡ length bytes) ⊎ ((kind : FrameKind) × (kind_at framing bytes place ≡ Some kind))

-- messages up to where reading stops, and maybe up to a byte that is added to the end
pub record EndsAt (framing : Framing) (bytes : List ℕ) (all : List RawMessage) : Type 0 where
  stop : StopsAt framing bytes
  more : List ℕ
  known : All (IsKnown framing) (take stop.place bytes ++ more)
  ended : AreEnded framing (take stop.place bytes ++ more) all

abbrev at_end : (framing : Framing) (bytes : List ℕ) → IsClear framing bytes (length bytes) → StopsAt framing bytes
at_end framing bytes clear = record { place = length bytes; within = omega arith; clear = clear; stops = inl refl }

abbrev at_fault : (framing : Framing) (bytes : List ℕ) (fault : FrameFault) → IsFirstFault framing bytes fault → StopsAt framing bytes
at_fault framing bytes fault h = record { place = fault.at; within = omega (arith, h.within); clear = h.first; stops = inr (fault.kind, h.kind) }

ends_before : (framing : Framing) (bytes : List ℕ) (all : List RawMessage) (stop : StopsAt framing bytes) → AreEnded framing (take stop.place bytes) all → EndsAt framing bytes all
ends_before framing bytes all stop h = record {
  stop = stop;
  more = [];
  known = rw append-nil (clear-known framing bytes stop.place stop.within stop.clear);
  ended = rw append-nil h;
}

finished-stops : (framing : Framing) (bytes : List ℕ) (all : List RawMessage) → Finished framing bytes all → (stop : StopsAt framing bytes) × AreEnded framing (take stop.place bytes) all
finished-stops framing bytes all (inl h) =
    (at_end framing bytes h.0, subst (λ l. AreEnded framing l all) (sym (take_all (length bytes) bytes (omega arith))) h.1)
finished-stops framing bytes all (inr h) = (at_fault framing bytes h.0 h.1, h.2)

finished-ends : (framing : Framing) (bytes : List ℕ) (all : List RawMessage) → Finished framing bytes all → EndsAt framing bytes all
finished-ends framing bytes all h = let s = finished-stops framing bytes all h in ends_before framing bytes all s.0 s.1

-- a whole input ends with its bytes, and the end of its last line
with_more : (framing : Framing) (bytes : List ℕ) → (more : List ℕ) × (with_end framing bytes ≡ bytes ++ more)
with_more Marks bytes = ([], sym (append-nil bytes))
with_more Lines bytes = by (is_open Lines bytes) refl where
  by : (o : Bool) → is_open Lines bytes ≡ o → (more : List ℕ) × (with_end Lines bytes ≡ bytes ++ more)
  by true o = (10 ∷ [], rw o refl)
  by false o = ([], rw o (sym (append-nil bytes)))

frames-ends : (framing : Framing) (bytes : List ℕ) (all : List RawMessage) (verdict : Option FrameFault) → Frames framing bytes all verdict → EndsAt framing bytes all
frames-ends framing bytes all None h =
    let m = with_more framing bytes in
    let same : with_end framing bytes ≡ take (length bytes) bytes ++ m.0 = m.1 ∙ ap (λ l. l ++ m.0) (sym (take_all (length bytes) bytes (omega arith))) in
    record {
      stop = at_end framing bytes h.0.clear;
      more = m.0;
      known = subst (All (IsKnown framing)) same (end-known framing bytes (whole-known framing bytes h.0.clear));
      ended = subst (λ l. AreEnded framing l all) same h.1;
    }
frames-ends framing bytes all (Some fault) (inl first, h) = ends_before framing bytes all (at_fault framing bytes fault first) h
frames-ends framing bytes all (Some fault) (inr last, h) =
    ends_before framing bytes all (at_end framing bytes last.clear) (subst (λ n. AreEnded framing (take n bytes) all) last.at_end h)

-- what an input gives, ends within what is looked at
gives-ends : (framing : Framing) (bytes : List ℕ) (reason : EndReason) (all : List RawMessage) → Gives framing bytes None reason all → EndsAt framing (looked_at bytes) all
gives-ends framing bytes finish.End all h = subst (λ l. EndsAt framing l all) (sym (take_all file_limit bytes h.0)) (frames-ends framing bytes all None h.1)
gives-ends framing bytes (finish.Frame fault) all (inl h) = subst (λ l. EndsAt framing l all) (sym (take_all file_limit bytes h.0)) (frames-ends framing bytes all (Some fault) h.1)
gives-ends framing bytes (finish.Frame fault) all (inr h) = finished-ends framing (looked_at bytes) all (finished-stopped framing (looked_at bytes) all fault h.1)
gives-ends framing bytes finish.Long all h = finished-ends framing (looked_at bytes) all h.ended
gives-ends framing bytes finish.Fault all h = absurd h
gives-ends framing bytes finish.Idle all h = absurd h

-- a place that is free of fault is settled: a CR that stands last is at fault
clear-settled : (framing : Framing) (bytes : List ℕ) (place : ℕ) → place < length bytes → kind_at framing bytes place ≡ None → IsSettled framing bytes place
clear-settled Marks bytes place within clear = within
clear-settled Lines bytes place within clear = (
  within,
  λ e. elim (cases_lt (place + 1) (length bytes)) as (λ _. place + 1 < length bytes) [
    | inl more ↦ more
    | inr last ↦
        let at : place + 1 ≡ length bytes = omega arith in
        let wrong = return-kind bytes [] place at (sym (last_of-get bytes place at) ∙ e) (λ ten. absurd (omega (arith, ten))) in
        let here : kind_at Lines bytes place ≡ Some BadByte = subst (λ l. kind_at Lines l place ≡ Some BadByte) (append-nil bytes) wrong in
        absurd (let never : None ≡ Some BadByte = sym clear ∙ here in cc)
  ],
)

-- what a first part of some bytes has finished comes before all others
pub finished-front : (framing : Framing) (bytes rest : List ℕ) (given all : List RawMessage) → Finished framing bytes given → EndsAt framing (bytes ++ rest) all → IsPrefixOf given all
finished-front framing bytes rest given all h k =
    let (g, given_ended) = finished-stops framing bytes given h in
    let place = g.place in
    let stop = k.stop.place in
    let order : place ≤ stop = elim (cases_lt stop place) as (λ _. place ≤ stop) [
      | inr le ↦ le
      | inl before ↦ absurd (late g before k.stop.stops)
    ] in
    let front : take place (take stop (bytes ++ rest)) ≡ take place bytes = take-take place stop (bytes ++ rest) order ∙ take-append-le place bytes rest g.within in
    let behind = drop place (take stop (bytes ++ rest)) ++ k.more in
    let whole : take stop (bytes ++ rest) ++ k.more ≡ take place bytes ++ behind =
    ap (λ l. l ++ k.more) (sym (take-append-drop place (take stop (bytes ++ rest))) ∙ ap (λ l. l ++ drop place (take stop (bytes ++ rest))) front)
    ∙ append_assoc (take place bytes) (drop place (take stop (bytes ++ rest))) k.more in
    let known = subst (All (IsKnown framing)) whole k.known in
    let ended = subst (λ l. AreEnded framing l all) whole k.ended in
    let more = ended-more framing (take place bytes) behind given known given_ended in
    (more.0, ended-unique framing (take place bytes ++ behind) all (given ++ more.0) ended more.1)
  where
    late : (g : StopsAt framing bytes) → k.stop.place < g.place → ((k.stop.place ≡ length (bytes ++ rest)) ⊎ ((kind : FrameKind) × (kind_at framing (bytes ++ rest) k.stop.place ≡ Some kind))) → ⊥
    late g before (inl end) = let w = g.within in omega (arith, length-append bytes rest)
    late g before (inr fault) =
        let w = g.within in
        let within : k.stop.place < length bytes = omega arith in
        let none = g.clear k.stop.place before within in
        let kept = kind_at-kept framing bytes rest k.stop.place (clear-settled framing bytes k.stop.place within none) in
        let never : None ≡ Some fault.0 = sym none ∙ (sym kept ∙ fault.1) in
        cc

-- what a first part of an input has finished comes first
pub first-finished : (framing : Framing) (bytes got : List ℕ) (given : List RawMessage) → IsPrefixOf got (looked_at bytes) → Finished framing got given → AreFirst framing bytes given
first-finished framing bytes got given front h =
    let whole = ends-exist framing bytes in
    let ends = subst (λ l. EndsAt framing l whole.1) front.1 (gives-ends framing bytes whole.0 whole.1 whole.2) in
    record { reason = whole.0; all = whole.1; gives = whole.2; prefix = finished-front framing got front.0 given whole.1 h ends }

-- what comes before messages that come first
pub first-front : (framing : Framing) (bytes : List ℕ) (messages more : List RawMessage) → AreFirst framing bytes (messages ++ more) → AreFirst framing bytes messages
first-front framing bytes messages more h =
    record { reason = h.reason; all = h.all; gives = h.gives; prefix = (more ++ h.prefix.0, h.prefix.1 ∙ append_assoc messages more h.prefix.0) }

pub first-none : (framing : Framing) (bytes : List ℕ) → AreFirst framing bytes []
first-none framing bytes =
    let whole = ends-exist framing bytes in
    record { reason = whole.0; all = whole.1; gives = whole.2; prefix = (whole.1, refl) }

-- what a whole input gives, it gives whatever its source gave where it failed
pub gives-whole : (framing : Framing) (bytes : List ℕ) (lost : Option (List ℕ)) (reason : EndReason) (all : List RawMessage) → Gives framing bytes None reason all → Gives framing bytes lost reason all
gives-whole framing bytes lost finish.End all h = h
gives-whole framing bytes lost (finish.Frame fault) all h = h
gives-whole framing bytes lost finish.Long all h = h
gives-whole framing bytes lost finish.Fault all h = absurd h
gives-whole framing bytes lost finish.Idle all h = absurd h

-- all that an input gives comes first, also where its source failed
pub first-given : (framing : Framing) (bytes : List ℕ) (lost : Option (List ℕ)) (reason : EndReason) (all : List RawMessage) → Gives framing bytes lost reason all → AreFirst framing bytes all
first-given framing bytes lost finish.End all h = record { reason = finish.End; all = all; gives = h; prefix = ([], sym (append-nil all)) }
first-given framing bytes lost (finish.Frame fault) all h = record { reason = finish.Frame fault; all = all; gives = h; prefix = ([], sym (append-nil all)) }
first-given framing bytes lost finish.Long all h = record { reason = finish.Long; all = all; gives = h; prefix = ([], sym (append-nil all)) }
first-given framing bytes None finish.Fault all h = absurd h
first-given framing bytes (Some given) finish.Fault all h = first-finished framing bytes given all h.front h.ended
first-given framing bytes lost finish.Idle all h = absurd h
