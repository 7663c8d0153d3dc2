-- If the token of a literal is a text, so are its characters.
use Rattle.std.proofs.Common.{◌≡◌, ◌-◌, Bool, true, false, ◌&&◌, List, [], ◌∷◌, length, drop, ℕ}
use Rattle.std.specs.Prelude.{if◌then◌else◌}
use Rattle.std.specs.List.{list_all}
use Rattle.std.proofs.lemmas.Bool.{and_parts}
use Rattle.com_text.specs.Text.{IsText, is_text_byte}
use Rattle.com_text.proofs.Texts.{IsText-drop, IsText-take}
use Rattle.cob_lex.specs.Characters.{is_quote}
use Rattle.cob_lex.specs.Literals.{characters_of}
use Rattle.cob_forms.specs.Written.{between_marks}

pub characters_text : (inside : List ℕ) → IsText inside → IsText (characters_of inside)
characters_text [] h = h
characters_text (byte ∷ []) h = h
characters_text (byte ∷ next ∷ rest) h =
    let one = and_parts (is_text_byte byte) (is_text_byte next && list_all is_text_byte rest) h in
    let two = and_parts (is_text_byte next) (list_all is_text_byte rest) one.1 in
    by (is_quote byte && is_quote next) one.0 (characters_text rest two.1) (characters_text (next ∷ rest) one.1)
  where
    with_byte : (others : List ℕ) → is_text_byte byte ≡ true → IsText others → IsText (byte ∷ others)
    with_byte others b t = rw b t

    by : (b : Bool) → is_text_byte byte ≡ true → IsText (characters_of rest) → IsText (characters_of (next ∷ rest))
        → IsText (if b then byte ∷ characters_of rest else byte ∷ characters_of (next ∷ rest))
    by true here s t = with_byte (characters_of rest) here s
    by false here s t = with_byte (characters_of (next ∷ rest)) here t

pub between_text : (text : List ℕ) → IsText text → IsText (between_marks text)
between_text text h = IsText-take (length text - 2) (drop 1 text) (IsText-drop 1 text h)
