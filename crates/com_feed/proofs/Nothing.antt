-- A terminal without an input.
use Rattle.std.proofs.Common.{◌≡◌, ◌↔◌, inl, inr, List, [], ◌∷◌, ◌++◌, None, refl, sym, ap, ◌∙◌, arith}
use Rattle.std.proofs.lemmas.Grind.{flat_map-append}
use Rattle.std.proofs.lemmas.List.{append-nil}
use Rattle.std.proofs.lemmas.List.Elements.{All-nil}
use Rattle.com_msg.specs.declared.message.RawMessage.{RawMessage}
use Rattle.com_msg.specs.declared.framing.Framing.{Framing}
use Rattle.com_msg.specs.declared.framing.Framing.TheVariants.{Marks, Lines}
use Rattle.com_lines.specs.Frames.{Frames, IsFramed}
use Rattle.com_events.specs.declared.call.Party.{Party}
use Rattle.com_events.specs.declared.call.EndReason.{EndReason}
use Rattle.com_events.specs.declared.call.EndReason.TheVariants as finish
use Rattle.com_events.specs.declared.entry.Entry.{Entry}
use Rattle.com_feed.specs.Fed.{AreFed, Fed, FedSoFar, Gives, arrivals_of, finished, message_of}
use Rattle.com_feed.proofs.Ends.{gives-unique}
use Rattle.com_feed.proofs.Steps.{fed-ends}

-- no bytes have no messages, and are sound
none-framed : (framing : Framing) → Frames framing [] [] None
none-framed Marks = (record { clear = λ i before within. absurd (omega (arith, before)); sound_end = refl }, record { framed = All-nil (IsFramed Marks); spelled = refl })
none-framed Lines = (record { clear = λ i before within. absurd (omega (arith, before)); sound_end = refl }, record { framed = All-nil (IsFramed Lines); spelled = refl })

none-given : (framing : Framing) → Gives framing [] None finish.End []
none-given framing = (omega arith, none-framed framing)

none-only : (framing : Framing) (reason : EndReason) (all : List RawMessage) → Gives framing [] None reason all → (reason ≡ finish.End) × (all ≡ [])
none-only framing reason all h = gives-unique framing [] reason finish.End all [] h (none-given framing)

-- nothing comes before the end of an empty list
no-more : (messages rest : List RawMessage) → [] ≡ messages ++ rest → (messages ≡ []) × (rest ≡ [])
no-more [] rest e = (refl, sym e)
no-more (message ∷ messages) rest e = let never : ⊥ = cc e in absurd never

none-fed : (party : Party) (framing : Framing) (reason : EndReason) (before : List Entry) → AreFed party framing [] None reason before → (reason ≡ finish.End) × (arrivals_of before ≡ [])
none-fed party framing finish.End before h = none-only framing finish.End (arrivals_of before) h
none-fed party framing (finish.Frame fault) before h = none-only framing (finish.Frame fault) (arrivals_of before) h
none-fed party framing finish.Long before h = none-only framing finish.Long (arrivals_of before) h
none-fed party framing finish.Fault before h = absurd h
none-fed party framing finish.Idle before h =
    let none = (none-only framing h.reason h.all h.gives).1 in
    let rest = (no-more (arrivals_of before) h.missing.0 (sym none ∙ h.missing.1)).1 in
    absurd (h.missing.2 rest)

-- without an input a terminal is fed where it ends with END, and nothing has arrived
pub nothing-fed : (party : Party) (framing : Framing) (entries : List Entry)
    → Fed party framing [] None entries ↔ ((before : List Entry) × (entries ≡ before ++ finished party finish.End ∷ []) × (arrivals_of before ≡ []))
nothing-fed party framing entries = (there, back) where
  there : Fed party framing [] None entries → (before : List Entry) × (entries ≡ before ++ finished party finish.End ∷ []) × (arrivals_of before ≡ [])
  there h =
      let f = none-fed party framing h.reason h.before h.are_fed in
      (h.before, h.ended ∙ ap (λ r. h.before ++ finished party r ∷ []) f.0, f.1)

  back : ((before : List Entry) × (entries ≡ before ++ finished party finish.End ∷ []) × (arrivals_of before ≡ [])) → Fed party framing [] None entries
  back h = rw h.1 (fed-ends party framing [] None finish.End h.0 (rw h.2 (none-given framing)))

-- and nothing arrives at any time
pub nothing-arrives : (party : Party) (framing : Framing) (entries : List Entry) → FedSoFar party framing [] None entries → arrivals_of entries ≡ []
nothing-arrives party framing entries (inl h) =
    let f = none-fed party framing h.reason h.before h.are_fed in
    ap arrivals_of h.ended ∙ flat_map-append (λ (entry : Entry). message_of entry.call) h.before (finished party h.reason ∷ []) ∙ append-nil (arrivals_of h.before) ∙ f.1
nothing-arrives party framing entries (inr h) =
    let a = h.arrivals in
    let none = (none-only framing a.reason a.all a.gives).1 in
    (no-more (arrivals_of entries) a.prefix.0 (sym none ∙ a.prefix.1)).0
