-- Reading what `encode` writes.
use Rattle.std.proofs.Common.{◌≡◌, ℕ, ◌+◌, ◌<◌, ◌≤◌, true, false, List, [], ◌∷◌, ◌++◌, length, get_or, take, refl, sym, ap, ◌∙◌, arith, None, append_assoc, length-append}
use Rattle.std.specs.Prelude.{nat_le, All}
use Rattle.std.specs.List.{flat_map, count_by, concat}
use Rattle.std.proofs.lemmas.Bool.{and_parts, lt-leb}
use Rattle.std.proofs.lemmas.List.{append-nil, flat_map_more, length_push, length-take-le, take_more}
use Rattle.std.proofs.lemmas.List.Folds.{concat-append}
use Rattle.std.proofs.lemmas.List.Elements.{All-head, All-tail}
use Rattle.com_text.specs.Text.{IsText, is_text, is_text_byte}
use Rattle.com_msg.specs.declared.message.End.{End}
use Rattle.com_msg.specs.declared.message.End.TheVariants.{Emi, Egi}
use Rattle.com_msg.specs.declared.message.RawMessage.{RawMessage}
use Rattle.com_msg.specs.declared.framing.Framing.TheVariants.{Marks}
use Rattle.com_lines.specs.Bytes.{is_between, is_ending, last_of, run, tail_of}
use Rattle.com_lines.specs.Faults.{kind_of}
use Rattle.com_msg.specs.Limits.{IsWithinLimits}
use Rattle.com_lines.specs.Frames.{Frames, encoded, ending_byte, joined, spelling}
use Rattle.com_lines.specs.inner.Reads.{Reads}
use Rattle.com_lines.proofs.OneByte.{plain, reads-between, reads-character, reads-end, reads-line_feed, reads-none}
use Rattle.com_lines.proofs.Runs.{last_of-push}

-- a character is right while its segment and its message are short of their limits
right-character : (bytes : List ℕ) (byte : ℕ) → is_text_byte byte ≡ true → length (run is_text_byte bytes) < 2000
    → count_by is_text_byte (tail_of Marks bytes) < 9999 → kind_of Marks bytes byte [] ≡ None
right-character bytes byte h short few =
    let class = plain Marks byte h in
    let a : nat_le 2000 (length (run is_text_byte bytes)) ≡ false = lt-leb 2000 _ short in
    let b : nat_le 9999 (count_by is_text_byte (tail_of Marks bytes)) ≡ false = lt-leb 9999 _ few in
    rw (h, class.kept, class.within, class.inside, a, b) refl

-- an ESI is right while its message is short of its limit
right-between : (bytes : List ℕ) → count_by (is_between Marks) (tail_of Marks bytes) < 9998 → kind_of Marks bytes 0x17 [] ≡ None
right-between bytes few =
    let a : nat_le 9998 (count_by (is_between Marks) (tail_of Marks bytes)) ≡ false = lt-leb 9998 _ few in
    rw a refl

-- an ending byte is right while there are few enough messages
right-end : (bytes : List ℕ) (end : End) → count_by (is_ending Marks) bytes < 65536 → kind_of Marks bytes (ending_byte Marks end) [] ≡ None
right-end bytes Emi few =
    let a : nat_le 65536 (count_by (is_ending Marks) bytes) ≡ false = lt-leb 65536 _ few in
    rw a refl
right-end bytes Egi few =
    let a : nat_le 65536 (count_by (is_ending Marks) bytes) ≡ false = lt-leb 65536 _ few in
    rw a refl

-- an LF after an ending byte is right
right-line_feed : (bytes : List ℕ) → is_ending Marks (last_of bytes) ≡ true → kind_of Marks bytes 10 [] ≡ None
right-line_feed bytes h = rw h refl

ending : (end : End) → is_ending Marks (ending_byte Marks end) ≡ true
ending Emi = refl
ending Egi = refl

-- characters of a segment
reads-text : (bytes : List ℕ) (given : List RawMessage) (segments : List (List ℕ)) (text more : List ℕ) → Reads Marks bytes given segments text → IsText more
    → length text + length more ≤ 2000 → length (concat segments) + length text + length more ≤ 9999
    → Reads Marks (bytes ++ more) given segments (text ++ more)
reads-text bytes given segments text [] h t short few = rw (append-nil bytes, append-nil text) h
reads-text bytes given segments text (byte ∷ more) h t short few =
    let (here, rest) = and_parts (is_text_byte byte) (is_text more) t in
    let right = right-character bytes byte here (omega (arith, h.in_run (λ held. absurd held))) (omega (arith, h.characters)) in
    let next = reads-character Marks bytes given segments text byte h here right (λ held. absurd held) in
    let all = reads-text (bytes ++ byte ∷ []) given segments (text ++ byte ∷ []) more next rest (omega (arith, length_push text byte)) (omega (arith, length_push text byte)) in
    rw (append_assoc bytes (byte ∷ []) more, append_assoc text (byte ∷ []) more) at all

-- the segments that are left of a message, and its end
reads-segments : (bytes : List ℕ) (given : List RawMessage) (before : List (List ℕ)) (segment : List ℕ) (behind : List (List ℕ)) (end : End)
    → Reads Marks bytes given before [] → All IsText (segment ∷ behind) → All (λ s. length s ≤ 2000) (segment ∷ behind)
    → length (concat before) + length (concat (segment ∷ behind)) ≤ 9999 → length before + length (segment ∷ behind) ≤ 9999 → length given < 65536
    → Reads Marks (bytes ++ (joined (segment ∷ behind) ++ ending_byte Marks end ∷ [])) (given ++ record { segments = before ++ segment ∷ behind; end = end } ∷ []) [] []
reads-segments bytes given before segment [] end h texts short few segs room =
    let here = All-head IsText segment [] texts in
    let short_here : length segment ≤ 2000 = All-head (λ s. length s ≤ 2000) segment [] short in
    let one : length (concat (segment ∷ [])) ≡ length segment = ap length (append-nil segment) in
    let text = reads-text bytes given before [] segment h here (omega (arith, short_here)) (omega (arith, one)) in
    let right = right-end (bytes ++ segment) end (omega (arith, text.endings)) in
    let message : RawMessage = record { segments = before ++ segment ∷ []; end = end } in
    let all = reads-end Marks (bytes ++ segment) given before segment (ending_byte Marks end) message text right (ending end) refl refl (omega (arith, length_push before segment)) in
    rw append_assoc at all
reads-segments bytes given before segment (next ∷ behind) end h texts short few segs room =
    let here = All-head IsText segment (next ∷ behind) texts in
    let short_here : length segment ≤ 2000 = All-head (λ s. length s ≤ 2000) segment (next ∷ behind) short in
    let parts : length (concat (segment ∷ next ∷ behind)) ≡ length segment + length (concat (next ∷ behind)) = length-append segment (concat (next ∷ behind)) in
    let text = reads-text bytes given before [] segment h here (omega (arith, short_here)) (omega (arith, parts)) in
    let right = right-between (bytes ++ segment) (omega (arith, text.betweens)) in
    let esi = reads-between (bytes ++ segment) given before segment 0x17 text refl right in
    let left : length (concat (before ++ segment ∷ [])) ≡ length (concat before) + length segment =
    ap length (concat-append before (segment ∷ [])) ∙ length-append (concat before) (concat (segment ∷ [])) ∙ ap (λ s. length (concat before) + length s) (append-nil segment) in
    let all = reads-segments ((bytes ++ segment) ++ 0x17 ∷ []) given (before ++ segment ∷ []) next behind end esi (All-tail IsText segment (next ∷ behind) texts) (All-tail (λ s. length s ≤ 2000) segment (next ∷ behind) short) (omega (arith, left, parts)) (omega (arith, length_push before segment)) room in
    let same : ((bytes ++ segment) ++ 0x17 ∷ []) ++ (joined (next ∷ behind) ++ ending_byte Marks end ∷ []) ≡ bytes ++ ((segment ++ 0x17 ∷ joined (next ∷ behind)) ++ ending_byte Marks end ∷ []) = simp append_assoc in
    let list : (before ++ segment ∷ []) ++ next ∷ behind ≡ before ++ segment ∷ next ∷ behind = append_assoc before (segment ∷ []) (next ∷ behind) in
    rw (same, list) at all

-- what is written of a message
pub record IsEncodable (message : RawMessage) : Type 0 where
  pub limits : IsWithinLimits message
  pub texts : All IsText message.segments

reads-parts : (bytes : List ℕ) (given : List RawMessage) (segments : List (List ℕ)) (end : End) → Reads Marks bytes given [] []
    → IsEncodable (record { segments = segments; end = end }) → length given < 65536
    → Reads Marks (bytes ++ (joined segments ++ ending_byte Marks end ∷ [])) (given ++ record { segments = segments; end = end } ∷ []) [] []
reads-parts bytes given [] end h m room = absurd (omega (arith, m.limits.not_empty))
reads-parts bytes given (segment ∷ segments) end h m room =
    reads-segments bytes given [] segment segments end h m.texts m.limits.short (omega (arith, m.limits.characters)) (omega (arith, m.limits.few)) room

reads-message : (bytes : List ℕ) (given : List RawMessage) (message : RawMessage) → Reads Marks bytes given [] [] → IsEncodable message → length given < 65536
    → Reads Marks (bytes ++ encoded message) (given ++ message ∷ []) [] []
reads-message bytes given message h m room =
    let spelled = reads-parts bytes given message.segments message.end h m room in
    let front = bytes ++ spelling Marks message in
    let last : is_ending Marks (last_of front) ≡ true =
    ap (λ xs. is_ending Marks (last_of xs)) (sym (append_assoc bytes (joined message.segments) (ending_byte Marks message.end ∷ []))) ∙ rw (last_of-push (bytes ++ joined message.segments) (ending_byte Marks message.end)) (ending message.end) in
    let all = reads-line_feed front (given ++ message ∷ []) [] [] 10 spelled refl last (right-line_feed front last) in
    rw append_assoc at all

reads-messages : (bytes : List ℕ) (given messages : List RawMessage) → Reads Marks bytes given [] [] → All IsEncodable messages → length given + length messages ≤ 65536
    → Reads Marks (bytes ++ flat_map encoded messages) (given ++ messages) [] []
reads-messages bytes given [] h m room = rw (append-nil bytes, append-nil given) h
reads-messages bytes given (message ∷ messages) h m room =
    let one = reads-message bytes given message h (All-head IsEncodable message messages m) (omega arith) in
    let all = reads-messages (bytes ++ encoded message) (given ++ message ∷ []) messages one (All-tail IsEncodable message messages m) (omega (arith, length_push given message)) in
    rw (append_assoc bytes (encoded message) (flat_map encoded messages), append_assoc given (message ∷ []) messages) at all

-- what is written of messages frames these messages
pub encoded-frames : (messages : List RawMessage) → All IsEncodable messages → length messages ≤ 65536 → Frames Marks (flat_map encoded messages) messages None
encoded-frames messages m room =
    let read = reads-messages [] [] messages (reads-none Marks) m (omega arith) in
    let bytes = flat_map encoded messages in (
      record { clear = λ i _ within. read.clear i within; sound_end = rw (← read.left) refl },
      read.ended,
    )

-- one more segment after others, or the first
joined-push : (segments : List (List ℕ)) (segment : List ℕ) → 1 ≤ length segments → joined (segments ++ segment ∷ []) ≡ joined segments ++ 0x17 ∷ segment
joined-push [] segment some = absurd (omega (arith, some))
joined-push (first ∷ []) segment some = refl
joined-push (first ∷ next ∷ segments) segment some =
    rw (joined-push (next ∷ segments) segment (omega arith)) (sym (append_assoc first (0x17 ∷ joined (next ∷ segments)) (0x17 ∷ segment)))

pub joined-more : (start items : List ℕ) (segments : List (List ℕ)) (i : ℕ) (segment d : List ℕ) → i < length segments → segment ≡ get_or segments i d
    → items ≡ start ++ joined (take i segments) → 0 < i → (items ++ 0x17 ∷ []) ++ segment ≡ start ++ joined (take (i + 1) segments)
joined-more start items segments i segment d within is so_far some =
    let long : 1 ≤ length (take i segments) = omega (arith, length-take-le i segments (omega arith)) in
    rw (so_far, take_more segments i d within, ← is, joined-push (take i segments) segment long) (simp append_assoc)

pub joined-first : (start items : List ℕ) (segments : List (List ℕ)) (i : ℕ) (segment d : List ℕ) → i < length segments → segment ≡ get_or segments i d
    → items ≡ start ++ joined (take i segments) → i ≡ 0 → items ++ segment ≡ start ++ joined (take (i + 1) segments)
joined-first start items segments i segment d within is so_far none =
    rw (so_far, take_more segments i d within, ← is, none) (simp append_assoc)

-- messages that are within the limits and are texts
pub all-encodable : (messages : List RawMessage) → All IsWithinLimits messages → All (λ message. All IsText message.segments) messages → All IsEncodable messages
all-encodable messages limits texts = λ k d within. record { limits = limits k d within; texts = texts k d within }

-- one more message after others
pub encoded-more : (items : List ℕ) (messages : List RawMessage) (i : ℕ) (message d : RawMessage) → i < length messages → message ≡ get_or messages i d
    → items ≡ flat_map encoded (take i messages) → items ++ encoded message ≡ flat_map encoded (take (i + 1) messages)
encoded-more items messages i message d within is so_far =
    rw (so_far, take_more messages i d within, ← is) (flat_map_more encoded [] (take i messages) message)
