-- Bytes of kinds that a framing has are messages, and then what has not ended.
use Rattle.std.proofs.Common.{◌≡◌, inl, inr, ℕ, ◌<◌, ◌≤◌, Bool, true, false, List, [], ◌∷◌, ◌++◌, length, take, get_or, refl, sym, ap, subst, ◌∙◌, arith, append_assoc, Some, None}
use Rattle.std.specs.Prelude.{All, ◌==◌}
use Rattle.std.specs.List.{filter, flat_map, list_all}
use Rattle.std.proofs.lemmas.Bool.{cases_Bool, eqb-true}
use Rattle.std.proofs.lemmas.Grind.{flat_map-append}
use Rattle.std.proofs.lemmas.List.{get_or-take, length-take-le}
use Rattle.std.proofs.lemmas.List.Folds.{list_all-append}
use Rattle.std.proofs.lemmas.List.Elements.{All-append, All-cons, All-drop, All-from_get_or, All-head, All-nil, All-tail, filter-append}
use Rattle.std.proofs.Math.Seq.{drop-append_seam}
use Rattle.com_text.specs.Text.{IsText, is_text_byte}
use Rattle.com_msg.specs.declared.message.End.{End}
use Rattle.com_msg.specs.declared.message.End.TheVariants.{Emi, Egi}
use Rattle.com_msg.specs.declared.message.RawMessage.{RawMessage}
use Rattle.com_msg.specs.declared.framing.Framing.{Framing}
use Rattle.com_msg.specs.declared.framing.Framing.TheVariants.{Marks, Lines}
use Rattle.com_msg.specs.declared.framing.FrameKind.TheVariants.{BadByte}
use Rattle.com_lines.specs.Bytes.{before_run, ended, is_between, is_ending, is_inside, is_kept, is_skipped, run, tail_of}
use Rattle.com_lines.specs.Faults.{is_known, kind_at}
use Rattle.com_lines.specs.Frames.{AreEnded, HasSegments, IsClear, IsFramed, ending_byte, joined, spelling}
use Rattle.com_lines.proofs.OneByte.{plain}
use Rattle.com_lines.proofs.Runs.{before_run-run}

-- a byte that the framing has somewhere
abbrev pub IsKnown : Framing → ℕ → Type 0
IsKnown framing byte = is_known framing byte ≡ true

-- bytes that begin with a message, and the other messages that end in them
record Begins (framing : Framing) (bytes : List ℕ) : Type 0 where
  first : RawMessage
  others : List RawMessage
  framed : All (IsFramed framing) (first ∷ others)
  spelled : flat_map (spelling framing) (first ∷ others) ≡ filter (is_kept framing) (ended framing bytes)

-- a byte in front of bytes that have an end
before-first : (framing : Framing) (byte : ℕ) (bytes : List ℕ) → list_all (is_inside framing) (byte ∷ bytes) ≡ false → ended framing (byte ∷ bytes) ≡ byte ∷ ended framing bytes
before-first framing byte bytes h = rw h refl

-- bytes without an end have no message
none-ended : (framing : Framing) (bytes : List ℕ) → list_all (is_inside framing) bytes ≡ true → ended framing bytes ≡ []
none-ended framing [] h = refl
none-ended framing (byte ∷ bytes) h = rw h refl

keeps : (framing : Framing) (byte : ℕ) (bytes : List ℕ) → is_kept framing byte ≡ true → filter (is_kept framing) (byte ∷ bytes) ≡ byte ∷ filter (is_kept framing) bytes
keeps framing byte bytes h = rw h refl

skips : (framing : Framing) (byte : ℕ) (bytes : List ℕ) → is_kept framing byte ≡ false → filter (is_kept framing) (byte ∷ bytes) ≡ filter (is_kept framing) bytes
skips framing byte bytes h = rw h refl

-- an ending byte is that of a message
record Closes (framing : Framing) (byte : ℕ) : Type 0 where
  end : End
  spelled : ending_byte framing end ≡ byte
  kept : is_kept framing byte ≡ true
  alone : HasSegments framing (record { segments = [] ∷ []; end = end })

closes : (framing : Framing) (byte : ℕ) → is_ending framing byte ≡ true → Closes framing byte
closes Marks byte h = elim (cases_Bool (byte == 3)) as (λ _. Closes Marks byte) [
  | inl three ↦ let e = eqb-true byte 3 three in record { end = Emi; spelled = sym e; kept = rw e refl; alone = omega arith }
  | inr other ↦ let four : (byte == 4) ≡ true = rw other at h in let e = eqb-true byte 4 four in record { end = Egi; spelled = sym e; kept = rw e refl; alone = omega arith }
]
closes Lines byte h = let e = eqb-true byte 10 h in record { end = Emi; spelled = sym e; kept = rw e refl; alone = (refl, refl) }

-- a message with one more character at its beginning
abbrev grown : ℕ → List (List ℕ) → List (List ℕ)
grown byte [] = (byte ∷ []) ∷ []
grown byte (segment ∷ segments) = (byte ∷ segment) ∷ segments

joined-grown : (byte : ℕ) (segments : List (List ℕ)) → joined (grown byte segments) ≡ byte ∷ joined segments
joined-grown byte [] = refl
joined-grown byte (segment ∷ []) = refl
joined-grown byte (segment ∷ next ∷ segments) = refl

text-first : (byte : ℕ) (text : List ℕ) → is_text_byte byte ≡ true → IsText text → IsText (byte ∷ text)
text-first byte text e h = rw (e, h) refl

framed-grown : (framing : Framing) (byte : ℕ) (message : RawMessage) → is_text_byte byte ≡ true → IsFramed framing message
    → IsFramed framing (record { segments = grown byte message.segments; end = message.end })
framed-grown framing byte message e h = record { segments = more framing message.segments message.end h.segments; texts = texts message.segments h.texts } where
  more : (framing : Framing) (segments : List (List ℕ)) (end : End) → HasSegments framing (record { segments = segments; end = end }) → HasSegments framing (record { segments = grown byte segments; end = end })
  more Marks [] end h = omega arith
  more Marks (segment ∷ segments) end h = omega (arith, h)
  more Lines [] end h = absurd (omega (arith, h.0))
  more Lines (segment ∷ segments) end h = (h.0, h.1)

  texts : (segments : List (List ℕ)) → All IsText segments → All IsText (grown byte segments)
  texts [] h = All-cons IsText (byte ∷ []) [] (text-first byte [] e refl) (All-nil IsText)
  texts (segment ∷ segments) h = All-cons IsText (byte ∷ segment) segments (text-first byte segment e (All-head IsText segment segments h)) (All-tail IsText segment segments h)

-- a message of marks with one more segment at its beginning, which is empty
framed-parted : (message : RawMessage) → IsFramed Marks message → IsFramed Marks (record { segments = [] ∷ message.segments; end = message.end })
framed-parted message h = record { segments = omega arith; texts = All-cons IsText [] message.segments refl h.texts }

joined-parted : (segments : List (List ℕ)) → 1 ≤ length segments → joined ([] ∷ segments) ≡ 0x17 ∷ joined segments
joined-parted [] h = absurd (omega arith)
joined-parted (segment ∷ segments) h = refl

-- a known byte that is no end
data Inside (framing : Framing) (byte : ℕ) : Type 0 where
  character : is_text_byte byte ≡ true → Inside framing byte
  between : is_between framing byte ≡ true → Inside framing byte
  skipped : is_kept framing byte ≡ false → Inside framing byte

inside : (framing : Framing) (byte : ℕ) → IsKnown framing byte → is_ending framing byte ≡ false → Inside framing byte
inside framing byte h free = by (is_text_byte byte) (is_between framing byte) (is_skipped framing byte) refl refl refl where
  by : (a b c : Bool) → is_text_byte byte ≡ a → is_between framing byte ≡ b → is_skipped framing byte ≡ c → Inside framing byte
  by true b c e f g = character e
  by false true c e f g = between f
  by false false true e f g = skipped (rw g refl)
  by false false false e f g = let never : false ≡ true = rw (e, free, f, g) at h in absurd cc

-- one more byte before bytes that begin with a message
begins-inside : (framing : Framing) (byte : ℕ) (bytes : List ℕ) → Inside framing byte → list_all (is_inside framing) (byte ∷ bytes) ≡ false → Begins framing bytes → Begins framing (byte ∷ bytes)
begins-inside framing byte bytes (character e) some b =
    let kept : is_kept framing byte ≡ true = rw (plain framing byte e).kept refl in
    let first : RawMessage = record { segments = grown byte b.first.segments; end = b.first.end } in
    record {
      first = first;
      others = b.others;
      framed = All-cons (IsFramed framing) first b.others (framed-grown framing byte b.first e (All-head (IsFramed framing) b.first b.others b.framed)) (All-tail (IsFramed framing) b.first b.others b.framed);
      spelled = rw (before-first framing byte bytes some, keeps framing byte (ended framing bytes) kept, joined-grown byte b.first.segments) (ap (λ l. byte ∷ l) b.spelled);
    }
begins-inside Marks byte bytes (between e) some b =
    let is = eqb-true byte 0x17 e in
    let first : RawMessage = record { segments = [] ∷ b.first.segments; end = b.first.end } in
    let h = All-head (IsFramed Marks) b.first b.others b.framed in
    record {
      first = first;
      others = b.others;
      framed = All-cons (IsFramed Marks) first b.others (framed-parted b.first h) (All-tail (IsFramed Marks) b.first b.others b.framed);
      spelled = rw (before-first Marks byte bytes some, is, joined-parted b.first.segments h.segments) (ap (λ l. 0x17 ∷ l) b.spelled);
    }
begins-inside Lines byte bytes (between e) some b = absurd cc
begins-inside framing byte bytes (skipped e) some b =
    record {
      first = b.first;
      others = b.others;
      framed = b.framed;
      spelled = b.spelled ∙ sym (ap (filter (is_kept framing)) (before-first framing byte bytes some) ∙ skips framing byte (ended framing bytes) e);
    }

-- an ending byte before bytes whose messages are these
begins-ending : (framing : Framing) (byte : ℕ) (bytes : List ℕ) (others : List RawMessage) → is_ending framing byte ≡ true → AreEnded framing bytes others → Begins framing (byte ∷ bytes)
begins-ending framing byte bytes others e h =
    let c = closes framing byte e in
    let some : list_all (is_inside framing) (byte ∷ bytes) ≡ false = rw e refl in
    let first : RawMessage = record { segments = [] ∷ []; end = c.end } in
    record {
      first = first;
      others = others;
      framed = All-cons (IsFramed framing) first others (record { segments = c.alone; texts = All-cons IsText [] [] refl (All-nil IsText) }) h.framed;
      spelled = rw (before-first framing byte bytes some, keeps framing byte (ended framing bytes) c.kept, c.spelled) (ap (λ l. byte ∷ l) h.spelled);
    }

no-messages : (framing : Framing) (bytes : List ℕ) → list_all (is_inside framing) bytes ≡ true → AreEnded framing bytes []
no-messages framing bytes h = record { framed = All-nil (IsFramed framing); spelled = rw (none-ended framing bytes h) refl }

begun : (framing : Framing) (bytes : List ℕ) → Begins framing bytes → (messages : List RawMessage) × AreEnded framing bytes messages
begun framing bytes b = (b.first ∷ b.others, record { framed = b.framed; spelled = b.spelled })

begins : (framing : Framing) (bytes : List ℕ) → All (IsKnown framing) bytes → list_all (is_inside framing) bytes ≡ false → Begins framing bytes
begins framing [] known some = absurd cc
begins framing (byte ∷ bytes) known some =
    let here : IsKnown framing byte = All-head (IsKnown framing) byte bytes known in
    let rest = All-tail (IsKnown framing) byte bytes known in
    by (is_ending framing byte) refl (list_all (is_inside framing) bytes) refl here (λ i. begins framing bytes rest i)
  where
    by : (e : Bool) → is_ending framing byte ≡ e → (i : Bool) → list_all (is_inside framing) bytes ≡ i → IsKnown framing byte
        → (list_all (is_inside framing) bytes ≡ false → Begins framing bytes) → Begins framing (byte ∷ bytes)
    by true e true i here next = begins-ending framing byte bytes [] e (no-messages framing bytes i)
    by true e false i here next = let b = begun framing bytes (next i) in begins-ending framing byte bytes b.0 e b.1
    by false e true i here next = let never : true ≡ false = rw (e, i) at some in absurd cc
    by false e false i here next = begins-inside framing byte bytes (inside framing byte here e) some (next i)

-- known bytes have messages
pub ended-exist : (framing : Framing) (bytes : List ℕ) → All (IsKnown framing) bytes → (messages : List RawMessage) × AreEnded framing bytes messages
ended-exist framing bytes known = by (list_all (is_inside framing) bytes) refl where
  by : (i : Bool) → list_all (is_inside framing) bytes ≡ i → (messages : List RawMessage) × AreEnded framing bytes messages
  by true i = ([], no-messages framing bytes i)
  by false i = begun framing bytes (begins framing bytes known i)

-- bytes after others: what ends in all of them is what ends in the first, and what ends in the rest with the others
parted : (test : ℕ → Bool) (bytes more : List ℕ) → before_run test (bytes ++ more) ≡ before_run test bytes ++ before_run test (run test bytes ++ more)
parted test [] more = refl
parted test (byte ∷ bytes) more = by (list_all test (byte ∷ bytes)) refl (parted test bytes more) where
  by : (i : Bool) → list_all test (byte ∷ bytes) ≡ i → before_run test (bytes ++ more) ≡ before_run test bytes ++ before_run test (run test bytes ++ more)
      → before_run test (byte ∷ bytes ++ more) ≡ before_run test (byte ∷ bytes) ++ before_run test (run test (byte ∷ bytes) ++ more)
  by true i next = rw i refl
  by false i next =
      let all : list_all test (byte ∷ bytes ++ more) ≡ false = list_all-append test (byte ∷ bytes) more ∙ rw i refl in
      rw (i, all) (ap (λ l. byte ∷ l) next)

-- more bytes end more messages after those that have ended
pub ended-more : (framing : Framing) (bytes more : List ℕ) (messages : List RawMessage) → All (IsKnown framing) (bytes ++ more) → AreEnded framing bytes messages
    → (others : List RawMessage) × AreEnded framing (bytes ++ more) (messages ++ others)
ended-more framing bytes more messages known h =
    let rest = tail_of framing bytes ++ more in
    let whole : bytes ++ more ≡ ended framing bytes ++ rest = ap (λ l. l ++ more) (sym (before_run-run (is_inside framing) bytes)) ∙ append_assoc (ended framing bytes) (tail_of framing bytes) more in
    let all = All-drop (IsKnown framing) (length (ended framing bytes)) (ended framing bytes ++ rest) (subst (All (IsKnown framing)) whole known) in
    let rest_known : All (IsKnown framing) rest = subst (All (IsKnown framing)) (drop-append_seam (ended framing bytes) rest) all in
    let found = ended-exist framing rest rest_known in (
      found.0,
      record {
        framed = All-append (IsFramed framing) messages found.0 h.framed found.1.framed;
        spelled = flat_map-append (spelling framing) messages found.0 ∙ rw (h.spelled, found.1.spelled) (sym (filter-append (is_kept framing) (ended framing bytes) (ended framing rest))) ∙ ap (filter (is_kept framing)) (sym (parted (is_inside framing) bytes more));
      },
    )

-- a place that is not at fault has a known byte
known-at : (framing : Framing) (bytes : List ℕ) (place : ℕ) → kind_at framing bytes place ≡ None → IsKnown framing (get_or bytes place 0)
known-at framing bytes place h = by (is_known framing (get_or bytes place 0)) refl where
  by : (b : Bool) → is_known framing (get_or bytes place 0) ≡ b → IsKnown framing (get_or bytes place 0)
  by true e = e
  by false e = let never : Some BadByte ≡ None = rw e at h in absurd cc

-- so the bytes before a fault are known
pub clear-known : (framing : Framing) (bytes : List ℕ) (place : ℕ) → place ≤ length bytes → IsClear framing bytes place → All (IsKnown framing) (take place bytes)
clear-known framing bytes place le clear =
    All-from_get_or (IsKnown framing) (take place bytes) 0
    (λ i lt. let before : i < place = omega (arith, lt, length-take-le place bytes le) in
    subst (IsKnown framing) (sym (get_or-take place bytes i 0 before)) (known-at framing bytes i (clear i before (omega arith))))
