-- A reading that takes in one more byte, which is free of fault.
use Rattle.std.proofs.Common.{◌≡◌, ◌≢◌, ℕ, ◌+◌, ◌<◌, ◌≤◌, Bool, true, false, List, [], ◌∷◌, ◌++◌, length, refl, sym, ap, ◌∙◌, arith, Some, None, length-append}
use Rattle.std.specs.Prelude.{◌==◌, ◌&&◌, ◌||◌, not, nat_le, if◌then◌else◌}
use Rattle.std.specs.List.{concat}
use Rattle.std.proofs.lemmas.Bool.{eqb-true, leb-false, or_parts}
use Rattle.std.proofs.lemmas.List.{append-nil, length_push}
use Rattle.std.proofs.lemmas.List.Folds.{concat-append}
use Rattle.com_text.specs.Text.{is_text_byte}
use Rattle.com_msg.specs.declared.message.End.{End}
use Rattle.com_msg.specs.declared.message.End.TheVariants.{Emi, Egi}
use Rattle.com_msg.specs.declared.message.RawMessage.{RawMessage}
use Rattle.com_msg.specs.declared.framing.Framing.{Framing}
use Rattle.com_msg.specs.declared.framing.Framing.TheVariants.{Marks, Lines}
use Rattle.com_msg.specs.declared.framing.FrameKind.{FrameKind}
use Rattle.com_lines.specs.declared.reading.Reading.{Reading}
use Rattle.com_lines.specs.Bytes.{is_between, is_ending, is_skipped, last_of}
use Rattle.com_lines.specs.Faults.{is_bad_byte, is_beside_end, is_long_message, is_long_segment, is_too_many}
use Rattle.com_lines.specs.Frames.{HasSegments, ending_byte}
use Rattle.com_lines.specs.inner.Reads.{HoldsReturn, MayStand, Reads}
use Rattle.com_lines.specs.inner.Readings.{end_of, IsNext, IsSafe, holds_return, next_kind, open_message, skips, with_byte, with_character, with_message, with_segment}
use Rattle.com_lines.proofs.OneByte.{reads-between, reads-character, reads-end, reads-line_feed, reads-return}
use Rattle.com_lines.proofs.Places.{IsRight}
use Rattle.com_lines.proofs.Runs.{last_of-push}
use Rattle.com_lines.proofs.Stops.{held-told, right-told}

-- no kind of fault holds
pub record IsFree (reading : Reading) (byte : ℕ) : Type 0 where
  pub known : is_bad_byte reading.framing reading.last byte 10 ≡ false
  pub short : is_long_segment (length reading.text) byte ≡ false
  pub small : is_long_message reading.framing reading.characters (length reading.segments) byte ≡ false
  pub few : is_too_many reading.framing reading.given byte ≡ false

four : (a b c d : Bool) (k l m n : FrameKind) → (if a then Some k else if b then Some l else if c then Some m else if d then Some n else None) ≡ None
    → (a ≡ false) × (b ≡ false) × (c ≡ false) × (d ≡ false)
four true b c d k l m n h = absurd cc
four false true c d k l m n h = absurd cc
four false false true d k l m n h = absurd cc
four false false false true k l m n h = absurd cc
four false false false false k l m n h = (refl, refl, refl, refl)

pub free : (reading : Reading) (byte : ℕ) → next_kind reading byte ≡ None → IsFree reading byte
free reading byte h = let (a, b, c, d) = four _ _ _ _ _ _ _ _ h in record { known = a; short = b; small = c; few = d }

-- a byte other than LF does not follow a CR
unheld : (reading : Reading) (bytes : List ℕ) (byte : ℕ) → reading.last ≡ last_of bytes → (holds_return reading ≡ true → byte ≡ 10) → byte ≢ 10 → ¬ HoldsReturn reading.framing bytes
unheld reading bytes byte last behind ne held = ne (behind (held-told reading.framing reading.last bytes last held))

-- a character
pub next-character : (reading : Reading) (byte : ℕ) → IsSafe reading → next_kind reading byte ≡ None → (holds_return reading ≡ true → byte ≡ 10)
    → is_text_byte byte ≡ true → IsNext reading byte None (with_byte byte (with_character byte reading))
next-character reading byte safe right behind character bytes given h =
    let other = λ (e : byte ≡ 10). let no : is_text_byte byte ≡ false = rw e refl in let never : ⊥ = cc in never in
    rw append-nil record {
      reads = reads-character reading.framing bytes given reading.segments reading.text byte h.reads character (right-told reading bytes given byte safe h right behind) (unheld reading bytes byte h.last behind other);
      at = omega (arith, h.at, length_push bytes byte);
      last = sym (last_of-push bytes byte);
      messages = h.messages;
    }

-- only marks have a byte between segments
between : (framing : Framing) (byte : ℕ) → is_between framing byte ≡ true → (framing ≡ Marks) × (byte ≡ 0x17)
between Marks byte h = (refl, eqb-true byte 0x17 h)
between Lines byte h = absurd cc

between-reads : (framing : Framing) (bytes : List ℕ) (given : List RawMessage) (segments : List (List ℕ)) (text : List ℕ) (byte : ℕ)
    → Reads framing bytes given segments text → is_between framing byte ≡ true → IsRight framing bytes byte
    → Reads framing (bytes ++ byte ∷ []) given (segments ++ text ∷ []) []
between-reads Marks bytes given segments text byte h b right = reads-between bytes given segments text byte h (eqb-true byte 0x17 b) right
between-reads Lines bytes given segments text byte h b right = absurd cc

pub next-segment : (reading : Reading) (byte : ℕ) → IsSafe reading → next_kind reading byte ≡ None → (holds_return reading ≡ true → byte ≡ 10)
    → is_between reading.framing byte ≡ true → IsNext reading byte None (with_byte byte (with_segment reading))
next-segment reading byte safe right behind esi bytes given h =
    rw append-nil record {
      reads = between-reads reading.framing bytes given reading.segments reading.text byte h.reads esi (right-told reading bytes given byte safe h right behind);
      at = omega (arith, h.at, length_push bytes byte);
      last = sym (last_of-push bytes byte);
      messages = h.messages;
    }

small-between : (framing : Framing) (last characters betweens byte : ℕ) → is_between framing byte ≡ true → is_long_message framing characters betweens byte ≡ false
    → (betweens < 9998) × (skips framing last ≤ skips framing byte) × ((segments : List (List ℕ)) → MayStand framing segments)
small-between Marks last characters betweens byte b small =
    let e = eqb-true byte 0x17 b in
    let (_, few) = or_parts (is_text_byte byte && nat_le 9999 characters) (is_between Marks byte && nat_le 9998 betweens) small in
    let none : nat_le 9998 betweens ≡ false = rw b at few in
    (leb-false 9998 betweens none, rw e (at_most_one (is_ending Marks last)), λ _. tt) where
      at_most_one : (b : Bool) → (if b then 0 else 1) ≤ 1
      at_most_one true = omega arith
      at_most_one false = omega arith
small-between Lines last characters betweens byte b small = absurd cc

pub safe-segment : (reading : Reading) (byte : ℕ) → IsSafe reading → next_kind reading byte ≡ None → is_between reading.framing byte ≡ true → IsSafe (with_byte byte (with_segment reading))
safe-segment reading byte safe right esi =
    let f = free reading byte right in
    let (few, bound, stand) = small-between reading.framing reading.last reading.characters (length reading.segments) byte esi f.small in
    let more = length_push reading.segments reading.text in
    let joined : length (concat (reading.segments ++ reading.text ∷ [])) ≡ length (concat reading.segments) + length reading.text =
    ap length (concat-append reading.segments (reading.text ∷ [])) ∙ length-append (concat reading.segments) (concat (reading.text ∷ [])) ∙ ap (λ s. length (concat reading.segments) + length s) (append-nil reading.text) in
    record {
      messages = safe.messages;
      counted = omega (arith, safe.counted, joined);
      characters = safe.characters;
      short = omega arith;
      few = omega (arith, more);
      is_text = refl;
      alone = stand (reading.segments ++ reading.text ∷ []);
      held = λ _. omega arith;
      at = omega (arith, safe.at, more);
    }

-- an ending byte, and how the message is spelled that it ends
pub record IsEnd (framing : Framing) (byte : ℕ) (end : End) : Type 0 where
  pub ending : is_ending framing byte ≡ true
  pub spelled : ending_byte framing end ≡ byte

end-told : (framing : Framing) (byte : ℕ) (end : End) → end_of framing byte ≡ Some end → IsEnd framing byte end
end-told Marks byte end h = marks (byte == 3) (byte == 4) refl refl h where
  marks : (a b : Bool) → (byte == 3) ≡ a → (byte == 4) ≡ b → (if a then Some Emi else if b then Some Egi else None) ≡ Some end → IsEnd Marks byte end
  marks true b e f g = let same : end ≡ Emi = cc in record { ending = rw e refl; spelled = rw same (sym (eqb-true byte 3 e)) }
  marks false true e f g = let same : end ≡ Egi = cc in record { ending = rw (e, f) refl; spelled = rw same (sym (eqb-true byte 4 f)) }
  marks false false e f g = absurd cc
end-told Lines byte end h = lines (byte == 10) refl h where
  lines : (a : Bool) → (byte == 10) ≡ a → (if a then Some Emi else None) ≡ Some end → IsEnd Lines byte end
  lines true e g = record { ending = e; spelled = sym (eqb-true byte 10 e) }
  lines false e g = absurd cc

-- what ends a message of lines is EMI
pub end-segments : (framing : Framing) (byte : ℕ) (segments : List (List ℕ)) (text : List ℕ) (end : End) → end_of framing byte ≡ Some end → MayStand framing segments
    → HasSegments framing (record { segments = segments ++ text ∷ []; end = end })
end-segments Marks byte segments text end h alone = omega (arith, length_push segments text)
end-segments Lines byte segments text end h alone = (rw alone refl, lines (byte == 10) h) where
  lines : (a : Bool) → (if a then Some Emi else None) ≡ Some end → end ≡ Emi
  lines true g = cc
  lines false g = absurd cc

pub next-message : (reading : Reading) (byte : ℕ) (end : End) → IsSafe reading → next_kind reading byte ≡ None → (holds_return reading ≡ true → byte ≡ 10)
    → end_of reading.framing byte ≡ Some end → IsNext reading byte (Some (open_message reading end)) (with_byte byte (with_message reading))
next-message reading byte end safe right behind ends bytes given h =
    let told = end-told reading.framing byte end ends in
    let some = end-segments reading.framing byte reading.segments reading.text end ends h.reads.alone in
    record {
      reads = reads-end reading.framing bytes given reading.segments reading.text byte (open_message reading end) h.reads (right-told reading bytes given byte safe h right behind) told.ending refl told.spelled some;
      at = omega (arith, h.at, length_push bytes byte);
      last = sym (last_of-push bytes byte);
      messages = omega (arith, h.messages, length_push given (open_message reading end));
    }

no-end : (framing : Framing) (byte : ℕ) → end_of framing byte ≡ None → is_ending framing byte ≡ false
no-end Marks byte h = marks (byte == 3) (byte == 4) h where
  marks : (a b : Bool) → (if a then Some Emi else if b then Some Egi else None) ≡ None → (a || b) ≡ false
  marks true b g = absurd cc
  marks false true g = absurd cc
  marks false false g = refl
no-end Lines byte h = lines (byte == 10) h where
  lines : (a : Bool) → (if a then Some Emi else None) ≡ None → a ≡ false
  lines true g = absurd cc
  lines false g = refl

-- a byte that is allowed, and neither a character nor an ending byte nor between segments, is
-- skipped
skip-told : (framing : Framing) (last byte : ℕ) → is_text_byte byte ≡ false → is_between framing byte ≡ false → is_ending framing byte ≡ false → is_bad_byte framing last byte 10 ≡ false
    → (is_skipped framing byte ≡ true) × (is_beside_end framing last 10 ≡ true)
skip-told framing last byte a b c h = parts (is_skipped framing byte) (is_beside_end framing last 10) (rw (a, c, b) at h) where
  parts : (s e : Bool) → (not s || (s && not e)) ≡ false → (s ≡ true) × (e ≡ true)
  parts true true g = (refl, refl)
  parts true false g = absurd cc
  parts false e g = absurd cc

skip-reads : (framing : Framing) (bytes : List ℕ) (given : List RawMessage) (segments : List (List ℕ)) (text : List ℕ) (byte : ℕ)
    → Reads framing bytes given segments text → is_skipped framing byte ≡ true → is_beside_end framing (last_of bytes) 10 ≡ true → IsRight framing bytes byte → (byte ≢ 10 → ¬ HoldsReturn framing bytes)
    → Reads framing (bytes ++ byte ∷ []) given segments text
skip-reads Marks bytes given segments text byte h s e right free = reads-line_feed bytes given segments text byte h (eqb-true byte 10 s) e right
skip-reads Lines bytes given segments text byte h s e right free =
    let cr = eqb-true byte 13 s in
    reads-return bytes given segments text byte h cr (free (λ lf. let no : 13 ≡ 10 = sym cr ∙ lf in absurd (omega (arith, no))))

pub next-skip : (reading : Reading) (byte : ℕ) → IsSafe reading → next_kind reading byte ≡ None → (holds_return reading ≡ true → byte ≡ 10)
    → is_text_byte byte ≡ false → is_between reading.framing byte ≡ false → end_of reading.framing byte ≡ None → IsNext reading byte None (with_byte byte reading)
next-skip reading byte safe right behind a b c bytes given h =
    let f = free reading byte right in
    let (skipped, beside) = skip-told reading.framing reading.last byte a b (no-end reading.framing byte c) f.known in
    rw append-nil record {
      reads = skip-reads reading.framing bytes given reading.segments reading.text byte h.reads skipped (rw h.last at beside) (right-told reading bytes given byte safe h right behind) (unheld reading bytes byte h.last behind);
      at = omega (arith, h.at, length_push bytes byte);
      last = sym (last_of-push bytes byte);
      messages = h.messages;
    }
