-- An input has one reading.
use Rattle.std.proofs.Common.{◌≡◌, ◌≢◌, ◌⊎◌, inl, inr, ℕ, ◌≤◌, true, false, List, [], ◌∷◌, ◌++◌, length, take, refl, sym, ap, ◌∙◌, arith, Option, Some, None, append_assoc, length-append}
use Rattle.std.specs.Prelude.{All}
use Rattle.std.specs.List.{flat_map}
use Rattle.std.proofs.lemmas.Bool.{and_parts}
use Rattle.std.proofs.lemmas.List.Elements.{All-head, All-tail}
use Rattle.com_text.specs.Text.{IsText, is_text, is_text_byte}
use Rattle.com_msg.specs.declared.message.End.{End}
use Rattle.com_msg.specs.declared.message.End.TheVariants.{Emi, Egi}
use Rattle.com_msg.specs.declared.message.RawMessage.{RawMessage}
use Rattle.com_msg.specs.declared.framing.Framing.{Framing}
use Rattle.com_msg.specs.declared.framing.Framing.TheVariants.{Marks, Lines}
use Rattle.com_msg.specs.declared.framing.FrameFault.{FrameFault}
use Rattle.com_lines.specs.Frames.{AreEnded, Frames, HasSegments, IsFaultAtEnd, IsFirstFault, IsFramed, IsSound, ending_byte, joined, spelling, with_end}
use Rattle.com_lines.proofs.Standing.{one-fault, same-fault}

-- a text ends where the first other byte stands
text-front : (s t : List ℕ) (a b : ℕ) (x y : List ℕ) → IsText s → IsText t → is_text_byte a ≡ false → is_text_byte b ≡ false → s ++ a ∷ x ≡ t ++ b ∷ y → (s ≡ t) × (a ∷ x ≡ b ∷ y)
text-front [] [] a b x y h k na nb e = (refl, e)
text-front [] (c ∷ t) a b x y h k na nb e =
    let (here, rest) = and_parts (is_text_byte c) (is_text t) k in
    let same : a ≡ c = cc in
    let text : is_text_byte a ≡ true = rw same here in
    let no : true ≡ false = sym text ∙ na in absurd cc
text-front (c ∷ s) [] a b x y h k na nb e =
    let (here, rest) = and_parts (is_text_byte c) (is_text s) h in
    let same : b ≡ c = cc in
    let text : is_text_byte b ≡ true = rw same here in
    let no : true ≡ false = sym text ∙ nb in absurd cc
text-front (c ∷ s) (d ∷ t) a b x y h k na nb e =
    let (_, hs) = and_parts (is_text_byte c) (is_text s) h in
    let (_, kt) = and_parts (is_text_byte d) (is_text t) k in
    let head : c ≡ d = cc in
    let rest : s ++ a ∷ x ≡ t ++ b ∷ y = cc in
    let (same, behind) = text-front s t a b x y hs kt na nb rest in
    (rw head (ap (λ u. d ∷ u) same), behind)

-- a byte that ends a message
record IsStopByte (byte : ℕ) : Type 0 where
  none : is_text_byte byte ≡ false
  other : byte ≢ 0x17

stop-byte : (framing : Framing) (end : End) → IsStopByte (ending_byte framing end)
stop-byte Marks Emi = record { none = refl; other = λ e. absurd (omega (arith, e)) }
stop-byte Marks Egi = record { none = refl; other = λ e. absurd (omega (arith, e)) }
stop-byte Lines end = record { none = refl; other = λ e. absurd (omega (arith, e)) }

-- segments and the byte after them are told apart in one way
joined-unique : (ss ts : List (List ℕ)) (c d : ℕ) (x y : List ℕ) → 1 ≤ length ss → 1 ≤ length ts → All IsText ss → All IsText ts → IsStopByte c → IsStopByte d
    → joined ss ++ c ∷ x ≡ joined ts ++ d ∷ y → (ss ≡ ts) × (c ∷ x ≡ d ∷ y)
joined-unique [] ts c d x y some others h k p q e = absurd (omega (arith, some))
joined-unique (s ∷ ss) [] c d x y some others h k p q e = absurd (omega (arith, others))
joined-unique (s ∷ []) (t ∷ []) c d x y some others h k p q e =
    let (same, behind) = text-front s t c d x y (All-head IsText s [] h) (All-head IsText t [] k) p.none q.none e in
    (ap (λ u. u ∷ []) same, behind)
joined-unique (s ∷ []) (t ∷ u ∷ ts) c d x y some others h k p q e =
    let f : s ++ c ∷ x ≡ t ++ 0x17 ∷ (joined (u ∷ ts) ++ d ∷ y) = e ∙ append_assoc t (0x17 ∷ joined (u ∷ ts)) (d ∷ y) in
    let (_, behind) = text-front s t c 0x17 x (joined (u ∷ ts) ++ d ∷ y) (All-head IsText s [] h) (All-head IsText t (u ∷ ts) k) p.none refl f in
    let esi : c ≡ 0x17 = cc in absurd (p.other esi)
joined-unique (s ∷ u ∷ ss) (t ∷ []) c d x y some others h k p q e =
    let f : s ++ 0x17 ∷ (joined (u ∷ ss) ++ c ∷ x) ≡ t ++ d ∷ y = sym (append_assoc s (0x17 ∷ joined (u ∷ ss)) (c ∷ x)) ∙ e in
    let (_, behind) = text-front s t 0x17 d (joined (u ∷ ss) ++ c ∷ x) y (All-head IsText s (u ∷ ss) h) (All-head IsText t [] k) refl q.none f in
    let esi : d ≡ 0x17 = cc in absurd (q.other esi)
joined-unique (s ∷ u ∷ ss) (t ∷ v ∷ ts) c d x y some others h k p q e =
    let f : s ++ 0x17 ∷ (joined (u ∷ ss) ++ c ∷ x) ≡ t ++ 0x17 ∷ (joined (v ∷ ts) ++ d ∷ y) =
    sym (append_assoc s (0x17 ∷ joined (u ∷ ss)) (c ∷ x)) ∙ e ∙ append_assoc t (0x17 ∷ joined (v ∷ ts)) (d ∷ y) in
    let (first, behind) = text-front s t 0x17 0x17 (joined (u ∷ ss) ++ c ∷ x) (joined (v ∷ ts) ++ d ∷ y) (All-head IsText s (u ∷ ss) h) (All-head IsText t (v ∷ ts) k) refl refl f in
    let rest : joined (u ∷ ss) ++ c ∷ x ≡ joined (v ∷ ts) ++ d ∷ y = cc in
    let (others, last) = joined-unique (u ∷ ss) (v ∷ ts) c d x y (omega arith) (omega arith) (All-tail IsText s (u ∷ ss) h) (All-tail IsText t (v ∷ ts) k) p q rest in
    (rw (first, others) refl, last)

has-some : (framing : Framing) (message : RawMessage) → HasSegments framing message → 1 ≤ length message.segments
has-some Marks message h = h
has-some Lines message h = omega (arith, h.0)

same-end : (framing : Framing) (m n : RawMessage) → HasSegments framing m → HasSegments framing n → ending_byte framing m.end ≡ ending_byte framing n.end → m.end ≡ n.end
same-end Marks m n h k e = ends m.end n.end e where
  ends : (a b : End) → ending_byte Marks a ≡ ending_byte Marks b → a ≡ b
  ends Emi Emi e = refl
  ends Emi Egi e = absurd (omega (arith, e))
  ends Egi Emi e = absurd (omega (arith, e))
  ends Egi Egi e = refl
same-end Lines m n h k e = h.1 ∙ sym k.1

same-message : (m n : RawMessage) → m.segments ≡ n.segments → m.end ≡ n.end → m ≡ n
same-message m n segments end =
    let first : m ≡ record { segments = n.segments; end = m.end } = ap (λ s. record { segments = s; end = m.end }) segments in
    let second : record { segments = n.segments; end = m.end } ≡ n = ap (λ e. record { segments = n.segments; end = e }) end in
    first ∙ second

-- no spelling is a prefix of another
spelling-unique : (framing : Framing) (m n : RawMessage) (x y : List ℕ) → IsFramed framing m → IsFramed framing n → spelling framing m ++ x ≡ spelling framing n ++ y → (m ≡ n) × (x ≡ y)
spelling-unique framing m n x y h k e =
    let c = ending_byte framing m.end in
    let d = ending_byte framing n.end in
    let f : joined m.segments ++ c ∷ x ≡ joined n.segments ++ d ∷ y = sym (append_assoc (joined m.segments) (c ∷ []) x) ∙ e ∙ append_assoc (joined n.segments) (d ∷ []) y in
    let (segments, behind) = joined-unique m.segments n.segments c d x y (has-some framing m h.segments) (has-some framing n k.segments) h.texts k.texts (stop-byte framing m.end) (stop-byte framing n.end) f in
    let bytes : c ≡ d = cc in
    let rest : x ≡ y = cc in
    (same-message m n segments (same-end framing m n h.segments k.segments bytes), rest)

some-spelling : (framing : Framing) (m : RawMessage) (x : List ℕ) → [] ≢ spelling framing m ++ x
some-spelling framing m x e =
    absurd (omega (arith, ap length e, length-append (spelling framing m) x, length-append (joined m.segments) (ending_byte framing m.end ∷ [])))

messages-unique : (framing : Framing) (ms ns : List RawMessage) → All (IsFramed framing) ms → All (IsFramed framing) ns → flat_map (spelling framing) ms ≡ flat_map (spelling framing) ns → ms ≡ ns
messages-unique framing [] [] h k e = refl
messages-unique framing [] (n ∷ ns) h k e = absurd (some-spelling framing n (flat_map (spelling framing) ns) e)
messages-unique framing (m ∷ ms) [] h k e = absurd (some-spelling framing m (flat_map (spelling framing) ms) (sym e))
messages-unique framing (m ∷ ms) (n ∷ ns) h k e =
    let (first, rest) = spelling-unique framing m n (flat_map (spelling framing) ms) (flat_map (spelling framing) ns) (All-head (IsFramed framing) m ms h) (All-head (IsFramed framing) n ns k) e in
    let others = messages-unique framing ms ns (All-tail (IsFramed framing) m ms h) (All-tail (IsFramed framing) n ns k) rest in
    rw (first, others) refl

-- the same bytes end the same messages
pub ended-unique : (framing : Framing) (bytes : List ℕ) (ms ns : List RawMessage) → AreEnded framing bytes ms → AreEnded framing bytes ns → ms ≡ ns
ended-unique framing bytes ms ns h k = messages-unique framing ms ns h.framed k.framed (h.spelled ∙ sym k.spelled)

sound-unfaulty : (framing : Framing) (bytes : List ℕ) (fault : FrameFault) → IsSound framing bytes → (IsFirstFault framing bytes fault ⊎ IsFaultAtEnd framing bytes fault) → ⊥
sound-unfaulty framing bytes fault h (inl k) = let none = h.clear fault.at k.within k.within in cc (k.kind)
sound-unfaulty framing bytes fault h (inr k) = let none = h.sound_end in cc (k.kind)

faults-unique : (framing : Framing) (bytes : List ℕ) (fault other : FrameFault) → (IsFirstFault framing bytes fault ⊎ IsFaultAtEnd framing bytes fault) → (IsFirstFault framing bytes other ⊎ IsFaultAtEnd framing bytes other) → fault ≡ other
faults-unique framing bytes fault other (inl h) (inl k) = one-fault framing bytes fault other h k
faults-unique framing bytes fault other (inl h) (inr k) = let none = k.clear fault.at h.within h.within in let no : ⊥ = cc (h.kind) in absurd no
faults-unique framing bytes fault other (inr h) (inl k) = let none = h.clear other.at k.within k.within in let no : ⊥ = cc (k.kind) in absurd no
faults-unique framing bytes fault other (inr h) (inr k) =
    let one : Some fault.kind ≡ Some other.kind = sym h.kind ∙ k.kind in
    let kinds : fault.kind ≡ other.kind = cc in
    same-fault fault other (h.at_end ∙ sym k.at_end) kinds

-- an input has one verdict and one list of messages
pub frames-unique : (framing : Framing) (bytes : List ℕ) (ms ns : List RawMessage) (verdict other : Option FrameFault) → Frames framing bytes ms verdict → Frames framing bytes ns other → (ms ≡ ns) × (verdict ≡ other)
frames-unique framing bytes ms ns None None h k = (ended-unique framing (with_end framing bytes) ms ns h.1 k.1, refl)
frames-unique framing bytes ms ns None (Some fault) h k = absurd (sound-unfaulty framing bytes fault h.0 k.0)
frames-unique framing bytes ms ns (Some fault) None h k = absurd (sound-unfaulty framing bytes fault k.0 h.0)
frames-unique framing bytes ms ns (Some fault) (Some other) h k =
    let same = faults-unique framing bytes fault other h.0 k.0 in
    (ended-unique framing (take fault.at bytes) ms ns h.1 (rw same k.1), ap Some same)
