-- Reading one more byte of a terminal's input.
use Rattle.std.proofs.Common.{◌≡◌, ℕ, true, false, List, [], ◌∷◌, ◌++◌, length, refl, sym, ap, ◌∙◌, arith, append_assoc, length-append}
use Rattle.std.specs.Prelude.{All}
use Rattle.std.specs.List.{filter, flat_map, concat}
use Rattle.std.proofs.lemmas.Bool.{eqb-true, not_from_false}
use Rattle.std.proofs.lemmas.Bool.Decides.{nat_tests}
use Rattle.std.proofs.lemmas.List.{append-nil, flat_map_more, length_push}
use Rattle.std.proofs.lemmas.List.Folds.{list_all-append, concat-append}
use Rattle.std.proofs.lemmas.List.Elements.{filter-append, All-push, All-nil}
use Rattle.com_text.specs.Text.{IsText, is_text_byte}
use Rattle.com_msg.specs.declared.message.RawMessage.{RawMessage}
use Rattle.com_msg.specs.declared.framing.Framing.{Framing}
use Rattle.com_msg.specs.declared.framing.Framing.TheVariants.{Marks, Lines}
use Rattle.com_lines.specs.Bytes.{is_between, is_ending, is_inside, is_kept, is_skipped, last_of, run, ended, tail_of}
use Rattle.com_lines.specs.Frames.{HasSegments, IsFramed, ending_byte, joined, spelling}
use Rattle.com_lines.specs.inner.Reads.{HoldsReturn, MayStand, Reads, opened}
use Rattle.com_lines.proofs.Places.{IsRight, clear-push}
use Rattle.com_lines.proofs.Runs.{run-last, run-push_yes, run-push_no, before_run-push_yes, before_run-push_no, before_run-run, last_of-push, filter-push_yes, filter-push_no, count-push_yes, count-push_no}

-- no character is an ending byte, an ESI or skipped
pub record IsPlain (framing : Framing) (byte : ℕ) : Type 0 where
  pub inside : is_ending framing byte ≡ false
  pub kept : is_skipped framing byte ≡ false
  pub within : is_between framing byte ≡ false

plain_marks : (byte : ℕ) → is_text_byte byte ≡ true → IsPlain Marks byte
plain_marks byte h = record { inside = grind (arith, nat_tests); kept = grind (arith, nat_tests); within = grind (arith, nat_tests) }

plain_lines : (byte : ℕ) → is_text_byte byte ≡ true → IsPlain Lines byte
plain_lines byte h = record { inside = grind (arith, nat_tests); kept = grind (arith, nat_tests); within = refl }

pub plain : (framing : Framing) (byte : ℕ) → is_text_byte byte ≡ true → IsPlain framing byte
plain Marks byte h = plain_marks byte h
plain Lines byte h = plain_lines byte h

-- a text with one more character
pub text-push : (text : List ℕ) (byte : ℕ) → IsText text → is_text_byte byte ≡ true → IsText (text ++ byte ∷ [])
text-push text byte h e = rw (list_all-append is_text_byte text (byte ∷ []), h, e) refl

-- one more character of the text
pub opened-push : (segments : List (List ℕ)) (text : List ℕ) (byte : ℕ) → opened segments (text ++ byte ∷ []) ≡ opened segments text ++ byte ∷ []
opened-push [] text byte = refl
opened-push (segment ∷ segments) text byte = rw (opened-push segments text byte) (sym (append_assoc segment (0x17 ∷ opened segments text) (byte ∷ [])))

-- the text ends its segment
pub opened-end : (segments : List (List ℕ)) (text : List ℕ) → opened (segments ++ text ∷ []) [] ≡ opened segments text ++ 0x17 ∷ []
opened-end [] text = refl
opened-end (segment ∷ segments) text = rw (opened-end segments text) (sym (append_assoc segment (0x17 ∷ opened segments text) (0x17 ∷ [])))

-- the text is the last segment
pub joined-end : (segments : List (List ℕ)) (text : List ℕ) → joined (segments ++ text ∷ []) ≡ opened segments text
joined-end [] text = refl
joined-end (segment ∷ []) text = refl
joined-end (segment ∷ next ∷ segments) text = ap (λ others. segment ++ 0x17 ∷ others) (joined-end (next ∷ segments) text)

-- a character
pub reads-character : (framing : Framing) (bytes : List ℕ) (given : List RawMessage) (segments : List (List ℕ)) (text : List ℕ) (byte : ℕ)
    → Reads framing bytes given segments text → is_text_byte byte ≡ true → IsRight framing bytes byte → ¬ HoldsReturn framing bytes
    → Reads framing (bytes ++ byte ∷ []) given segments (text ++ byte ∷ [])
reads-character framing bytes given segments text byte h character right free =
    let class = plain framing byte character in
    let inside : is_inside framing byte ≡ true = not_from_false (is_ending framing byte) class.inside in
    let kept : is_kept framing byte ≡ true = not_from_false (is_skipped framing byte) class.kept in
    let tail : tail_of framing (bytes ++ byte ∷ []) ≡ tail_of framing bytes ++ byte ∷ [] = run-push_yes (is_inside framing) bytes byte inside in
    let front : ended framing (bytes ++ byte ∷ []) ≡ ended framing bytes = before_run-push_yes (is_inside framing) bytes byte inside in
    record {
      clear = clear-push framing bytes byte h.clear right (λ held. absurd (free held));
      ended = record { framed = h.ended.framed; spelled = rw front h.ended.spelled };
      endings = count-push_no (is_ending framing) bytes byte class.inside ∙ h.endings;
      left = rw (tail, filter-push_yes (is_kept framing) (tail_of framing bytes) byte kept, ← h.left) (opened-push segments text byte);
      texts = h.texts;
      is_text = text-push text byte h.is_text character;
      alone = h.alone;
      characters = rw (tail, count-push_yes is_text_byte (tail_of framing bytes) byte character, length_push text byte, h.characters) (omega arith);
      betweens = rw (tail, count-push_no (is_between framing) (tail_of framing bytes) byte class.within) h.betweens;
      in_run = λ _. rw (run-push_yes is_text_byte bytes byte character, length_push (run is_text_byte bytes) byte, h.in_run free, length_push text byte) refl;
    }

-- ESI
pub reads-between : (bytes : List ℕ) (given : List RawMessage) (segments : List (List ℕ)) (text : List ℕ) (byte : ℕ)
    → Reads Marks bytes given segments text → byte ≡ 0x17 → IsRight Marks bytes byte
    → Reads Marks (bytes ++ byte ∷ []) given (segments ++ text ∷ []) []
reads-between bytes given segments text byte h e right =
    let esi : is_between Marks byte ≡ true = rw e refl in
    let inside : is_inside Marks byte ≡ true = rw e refl in
    let no_end : is_ending Marks byte ≡ false = rw e refl in
    let kept : is_kept Marks byte ≡ true = rw e refl in
    let none : is_text_byte byte ≡ false = rw e refl in
    let tail : tail_of Marks (bytes ++ byte ∷ []) ≡ tail_of Marks bytes ++ byte ∷ [] = run-push_yes (is_inside Marks) bytes byte inside in
    let front : ended Marks (bytes ++ byte ∷ []) ≡ ended Marks bytes = before_run-push_yes (is_inside Marks) bytes byte inside in
    record {
      clear = clear-push Marks bytes byte h.clear right (λ held. absurd held);
      ended = record { framed = h.ended.framed; spelled = rw front h.ended.spelled };
      endings = count-push_no (is_ending Marks) bytes byte no_end ∙ h.endings;
      left = rw (tail, filter-push_yes (is_kept Marks) (tail_of Marks bytes) byte kept, ← h.left, e) (opened-end segments text);
      texts = All-push IsText segments text h.texts h.is_text;
      is_text = refl;
      alone = tt;
      characters = rw (tail, count-push_no is_text_byte (tail_of Marks bytes) byte none, concat-append segments (text ∷ []), length-append (concat segments) (concat (text ∷ [])), h.characters) (omega (arith, ap length (append-nil text)));
      betweens = rw (tail, count-push_yes (is_between Marks) (tail_of Marks bytes) byte esi, length_push segments text, h.betweens) refl;
      in_run = λ _. rw (run-push_no is_text_byte bytes byte none) refl;
    }

-- an ending byte
pub reads-end : (framing : Framing) (bytes : List ℕ) (given : List RawMessage) (segments : List (List ℕ)) (text : List ℕ) (byte : ℕ) (message : RawMessage)
    → Reads framing bytes given segments text → IsRight framing bytes byte → is_ending framing byte ≡ true
    → message.segments ≡ segments ++ text ∷ [] → ending_byte framing message.end ≡ byte → HasSegments framing message
    → Reads framing (bytes ++ byte ∷ []) (given ++ message ∷ []) [] []
reads-end framing bytes given segments text byte message h right ending same spelled some =
    let p = is_inside framing in
    let outside : is_inside framing byte ≡ false = rw ending refl in
    let kept : is_kept framing byte ≡ true = end_kept framing byte ending in
    let none : is_text_byte byte ≡ false = end_plain framing byte ending in
    let tail : tail_of framing (bytes ++ byte ∷ []) ≡ [] = run-push_no p bytes byte outside in
    let front : ended framing (bytes ++ byte ∷ []) ≡ bytes ++ byte ∷ [] = before_run-push_no p bytes byte outside in
    let texts : All IsText message.segments = rw same (All-push IsText segments text h.texts h.is_text) in
    let whole : filter (is_kept framing) bytes ≡ flat_map (spelling framing) given ++ joined message.segments =
    ap (filter (is_kept framing)) (sym (before_run-run p bytes)) ∙ filter-append (is_kept framing) (ended framing bytes) (tail_of framing bytes) ∙ rw (← h.ended.spelled, ← h.left, same, joined-end segments text) refl in
    let last : flat_map (spelling framing) (given ++ message ∷ []) ≡ flat_map (spelling framing) given ++ (joined message.segments ++ byte ∷ []) =
    sym (flat_map_more (spelling framing) [] given message) ∙ rw spelled refl in
    record {
      clear = clear-push framing bytes byte h.clear right (end_held framing bytes byte ending);
      ended = record {
        framed = All-push (IsFramed framing) given message h.ended.framed record { segments = some; texts = texts };
        spelled = rw (front, filter-push_yes (is_kept framing) bytes byte kept, whole, append_assoc (flat_map (spelling framing) given) (joined message.segments) (byte ∷ [])) last;
      };
      endings = rw (count-push_yes (is_ending framing) bytes byte ending, h.endings, length_push given message) refl;
      left = rw tail refl;
      texts = All-nil IsText;
      is_text = refl;
      alone = nothing framing;
      characters = rw tail refl;
      betweens = rw tail refl;
      in_run = λ _. rw (run-push_no is_text_byte bytes byte none) refl;
    } where
      end_kept : (framing : Framing) (byte : ℕ) → is_ending framing byte ≡ true → is_kept framing byte ≡ true
      end_kept Marks byte h = grind (arith, nat_tests)
      end_kept Lines byte h = grind (arith, nat_tests)

      end_plain : (framing : Framing) (byte : ℕ) → is_ending framing byte ≡ true → is_text_byte byte ≡ false
      end_plain Marks byte h = grind (arith, nat_tests)
      end_plain Lines byte h = grind (arith, nat_tests)

      end_held : (framing : Framing) (bytes : List ℕ) (byte : ℕ) → is_ending framing byte ≡ true → HoldsReturn framing bytes → byte ≡ 10
      end_held Marks bytes byte h held = absurd held
      end_held Lines bytes byte h held = eqb-true byte 10 h

      nothing : (framing : Framing) → MayStand framing []
      nothing Marks = tt
      nothing Lines = refl

-- an LF of marks
pub reads-line_feed : (bytes : List ℕ) (given : List RawMessage) (segments : List (List ℕ)) (text : List ℕ) (byte : ℕ)
    → Reads Marks bytes given segments text → byte ≡ 10 → is_ending Marks (last_of bytes) ≡ true → IsRight Marks bytes byte
    → Reads Marks (bytes ++ byte ∷ []) given segments text
reads-line_feed bytes given segments text byte h e after right =
    let inside : is_inside Marks byte ≡ true = rw e refl in
    let no_end : is_ending Marks byte ≡ false = rw e refl in
    let skipped : is_kept Marks byte ≡ false = rw e refl in
    let esi : is_between Marks byte ≡ false = rw e refl in
    let none : is_text_byte byte ≡ false = rw e refl in
    let tail : tail_of Marks (bytes ++ byte ∷ []) ≡ tail_of Marks bytes ++ byte ∷ [] = run-push_yes (is_inside Marks) bytes byte inside in
    let front : ended Marks (bytes ++ byte ∷ []) ≡ ended Marks bytes = before_run-push_yes (is_inside Marks) bytes byte inside in
    let before : is_text_byte (last_of bytes) ≡ false = end_plain (last_of bytes) after in
    let empty : length text ≡ 0 = sym (h.in_run (λ held. absurd held)) ∙ ap length (run-last is_text_byte bytes before) in
    record {
      clear = clear-push Marks bytes byte h.clear right (λ held. absurd held);
      ended = record { framed = h.ended.framed; spelled = rw front h.ended.spelled };
      endings = count-push_no (is_ending Marks) bytes byte no_end ∙ h.endings;
      left = rw (tail, filter-push_no (is_kept Marks) (tail_of Marks bytes) byte skipped) h.left;
      texts = h.texts;
      is_text = h.is_text;
      alone = tt;
      characters = rw (tail, count-push_no is_text_byte (tail_of Marks bytes) byte none) h.characters;
      betweens = rw (tail, count-push_no (is_between Marks) (tail_of Marks bytes) byte esi) h.betweens;
      in_run = λ _. rw (run-push_no is_text_byte bytes byte none, empty) refl;
    } where
      end_plain : (byte : ℕ) → is_ending Marks byte ≡ true → is_text_byte byte ≡ false
      end_plain byte h = grind (arith, nat_tests)

-- a CR of lines
pub reads-return : (bytes : List ℕ) (given : List RawMessage) (segments : List (List ℕ)) (text : List ℕ) (byte : ℕ)
    → Reads Lines bytes given segments text → byte ≡ 13 → ¬ HoldsReturn Lines bytes
    → Reads Lines (bytes ++ byte ∷ []) given segments text
reads-return bytes given segments text byte h e free =
    let inside : is_inside Lines byte ≡ true = rw e refl in
    let no_end : is_ending Lines byte ≡ false = rw e refl in
    let skipped : is_kept Lines byte ≡ false = rw e refl in
    let none : is_text_byte byte ≡ false = rw e refl in
    let tail : tail_of Lines (bytes ++ byte ∷ []) ≡ tail_of Lines bytes ++ byte ∷ [] = run-push_yes (is_inside Lines) bytes byte inside in
    let front : ended Lines (bytes ++ byte ∷ []) ≡ ended Lines bytes = before_run-push_yes (is_inside Lines) bytes byte inside in
    record {
      clear = clear-push Lines bytes byte h.clear (λ ne. absurd (ne e)) (λ held. absurd (free held));
      ended = record { framed = h.ended.framed; spelled = rw front h.ended.spelled };
      endings = count-push_no (is_ending Lines) bytes byte no_end ∙ h.endings;
      left = rw (tail, filter-push_no (is_kept Lines) (tail_of Lines bytes) byte skipped) h.left;
      texts = h.texts;
      is_text = h.is_text;
      alone = h.alone;
      characters = rw (tail, count-push_no is_text_byte (tail_of Lines bytes) byte none) h.characters;
      betweens = rw (tail, count-push_no (is_between Lines) (tail_of Lines bytes) byte refl) h.betweens;
      in_run = λ held. absurd (held (last_of-push bytes byte ∙ e));
    }

-- no byte
pub reads-none : (framing : Framing) → Reads framing [] [] [] []
reads-none Marks = record {
  clear = λ i h. absurd (omega (arith, h));
  ended = record { framed = All-nil (IsFramed Marks); spelled = refl };
  endings = refl;
  left = refl;
  texts = All-nil IsText;
  is_text = refl;
  alone = tt;
  characters = refl;
  betweens = refl;
  in_run = λ _. refl;
}
reads-none Lines = record {
  clear = λ i h. absurd (omega (arith, h.0));
  ended = record { framed = All-nil (IsFramed Lines); spelled = refl };
  endings = refl;
  left = refl;
  texts = All-nil IsText;
  is_text = refl;
  alone = refl;
  characters = refl;
  betweens = refl;
  in_run = λ _. refl;
}
