-- The tokens of a source by themselves: what each of them is, where it stands, and what stands
-- between them.
use Rattle.std.specs.Prelude.{◌≡◌, ◌≢◌, ℕ, ◌+◌, ◌-◌, ◌<◌, ◌≤◌, Bool, true, false, not, ◌&&◌, if◌then◌else◌, List, [], ◌∷◌, ◌++◌, length, slice_index, slice_range, All, codes}
use Rattle.std.specs.List.{list_all}
use Rattle.com_text.specs.Text.{IsText}
use Rattle.cob_lex.specs.declared.token.Token.{Token}
use Rattle.cob_lex.specs.declared.token.TokenKind.{TokenKind}
use Rattle.cob_lex.specs.declared.token.TokenKind.TheVariants as tokens
use Rattle.cob_lex.specs.declared.lines.Place.{Place}
use Rattle.cob_lex.specs.declared.lines.LineKind.{LineKind}
use Rattle.cob_lex.specs.declared.lines.LineKind.TheVariants as kinds
use Rattle.cob_lex.specs.declared.front.Awaited.{Awaited}
use Rattle.cob_lex.specs.declared.front.Awaited.TheVariants as awaited
use Rattle.cob_lex.specs.Characters.{is_word_byte, is_no_space, is_quote, is_separator, is_space, is_spacing, space_next}
use Rattle.cob_lex.specs.Lines.{Line, source_lines, text_of}
use Rattle.cob_lex.specs.Literals.{is_literal}
use Rattle.cob_lex.specs.Fronts.{awaited_behind, is_number, is_word}
use Rattle.cob_lex.specs.Lexing.{token_at}

-- a byte of a sort comes next
abbrev pub is_next : (ℕ → Bool) → List ℕ → Bool
is_next test [] = false
is_next test (byte ∷ rest) = test byte

-- A run is the longest: all its bytes are of words, and what is after it begins with no such byte.
pub record IsRun (text behind : List ℕ) : Type 0 where
  pub inside : list_all is_word_byte text ≡ true
  pub longest : is_next is_word_byte behind ≡ false

-- quotation marks stand two together alone
abbrev pub is_paired : List ℕ → Bool
is_paired [] = true
is_paired (byte ∷ []) = not (is_quote byte)
is_paired (byte ∷ next ∷ rest) =
    if is_quote byte then is_quote next && is_paired rest else is_paired (next ∷ rest)

-- A literal is between two quotation marks, and goes on as far as they stand two together inside.
pub record IsQuoted (text behind : List ℕ) : Type 0 where
  pub inside : List ℕ
  pub written : text ≡ 0x22 ∷ (inside ++ 0x22 ∷ [])
  pub paired : is_paired inside ≡ true
  pub sized : is_literal inside ≡ true
  pub longest : is_next is_quote behind ≡ false

-- A run goes up to a space or the end of the line, except one last period, comma or semicolon.
abbrev pub is_to_space : List ℕ → List ℕ → Bool
is_to_space text [] = not (is_separator (slice_index text (length text - 1)))
is_to_space text (byte ∷ rest) =
    if is_space byte then not (is_separator (slice_index text (length text - 1)))
    else is_separator byte && space_next rest

pub record IsPictureRun (text behind : List ℕ) : Type 0 where
  pub inside : list_all is_no_space text ≡ true
  pub longest : is_to_space text behind ≡ true

-- what a text is as a token, by what is after it, where no picture may come
abbrev pub IsPlain : TokenKind → List ℕ → List ℕ → Type 0
IsPlain tokens.Word text behind = (is_word text ≡ true) × IsRun text behind
IsPlain tokens.Number text behind = (is_number text ≡ true) × IsRun text behind
IsPlain tokens.Literal text behind = IsQuoted text behind
IsPlain tokens.Picture text behind = ⊥
IsPlain tokens.Period text behind = (text ≡ codes ".") × (space_next behind ≡ true)
IsPlain tokens.Open text behind = text ≡ codes "("
IsPlain tokens.Close text behind = text ≡ codes ")"
IsPlain tokens.Equal text behind = text ≡ codes "="
IsPlain tokens.Greater text behind = text ≡ codes ">"
IsPlain tokens.Less text behind = text ≡ codes "<"

-- after PIC or PICTURE
abbrev pub IsPictureOrIs : TokenKind → List ℕ → List ℕ → Type 0
IsPictureOrIs tokens.Word text behind = (text ≡ codes "IS") × IsPictureRun text behind
IsPictureOrIs tokens.Picture text behind = (text ≢ codes "IS") × IsPictureRun text behind
IsPictureOrIs tokens.Period text behind = IsPlain tokens.Period text behind
IsPictureOrIs kind text behind = ⊥

-- after their IS
abbrev pub IsPicture : TokenKind → List ℕ → List ℕ → Type 0
IsPicture tokens.Picture text behind = IsPictureRun text behind
IsPicture tokens.Period text behind = IsPlain tokens.Period text behind
IsPicture kind text behind = ⊥

abbrev pub IsLongest : Awaited → TokenKind → List ℕ → List ℕ → Type 0
IsLongest awaited.Nothing kind text behind = IsPlain kind text behind
IsLongest awaited.IsOrPicture kind text behind = IsPictureOrIs kind text behind
IsLongest awaited.Picture kind text behind = IsPicture kind text behind

-- a token so many bytes after the first byte of its line, before the rest of the line
pub record IsTokenAt (awaits : Awaited) (place : Place) (at : ℕ) (token : Token) (behind : List ℕ) : Type 0 where
  pub some : 1 ≤ length token.text
  pub characters : IsText token.text
  pub longest : IsLongest awaits token.kind token.text behind
  pub stands : token ≡ token_at place at token.kind token.text

-- The tokens of a rest so many bytes after the first byte of its line, and what is awaited before
-- and after them: between them, before them and after them stand spaces, and commas and semicolons
-- that are like one, alone.
pub data IsSpelled : Awaited → Place → ℕ → List ℕ → List Token → Awaited → Type 0 where
  ends : {awaits : Awaited} {place : Place} {at : ℕ} → IsSpelled awaits place at [] [] awaits
  after_spacing : {awaits next : Awaited} {place : Place} {at byte : ℕ} {rest : List ℕ} {tokens : List Token}
      → is_spacing byte rest ≡ true → IsSpelled awaits place (at + 1) rest tokens next
      → IsSpelled awaits place at (byte ∷ rest) tokens next
  after_token : {awaits next : Awaited} {place : Place} {at : ℕ} {rest behind : List ℕ} {token : Token} {tokens : List Token}
      → rest ≡ token.text ++ behind → IsTokenAt awaits place at token behind
      → IsSpelled (awaited_behind awaits token.kind token.text) place (at + length token.text) behind tokens next
      → IsSpelled awaits place at rest (token ∷ tokens) next

-- the tokens of a line
abbrev pub IsLine : LineKind → Awaited → Place → List ℕ → List Token → Awaited → Type 0
IsLine kinds.Comment awaits place bytes tokens next = (tokens ≡ []) × (next ≡ awaits)
IsLine kinds.CommentParagraph awaits place bytes tokens next = (tokens ≡ []) × (next ≡ awaits)
IsLine kinds.BadColumn awaits place bytes tokens next = ⊥
IsLine kinds.Text awaits place bytes tokens next = IsSpelled awaits place 7 (text_of bytes) tokens next

-- the tokens of lines, one after another
pub data AreLines : Awaited → List Line → List Token → Type 0 where
  no_line : {awaits : Awaited} → AreLines awaits [] []
  after_line : {awaits next : Awaited} {line : Line} {lines : List Line} {tokens : List Token} (here others : List Token)
      → tokens ≡ here ++ others → IsLine line.kind awaits line.place line.bytes here next
      → AreLines next lines others → AreLines awaits (line ∷ lines) tokens

-- Spans between two places, in order: none is empty, and each begins where the one before it ends,
-- or later.
abbrev pub AreBetween : ℕ → List Token → ℕ → Type 0
AreBetween from [] to = from ≤ to
AreBetween from (token ∷ tokens) to =
    (from ≤ token.start) × (token.start < token.past) × AreBetween token.past tokens to

-- a token's text is its slice of the source
abbrev pub IsSlice : List ℕ → Token → Type 0
IsSlice source token = slice_range source token.start token.past ≡ token.text

-- the tokens of a source
pub record AreTokens (source : List ℕ) (tokens : List Token) : Type 0 where
  pub spelled : AreLines awaited.Nothing (source_lines source) tokens
  pub between : AreBetween 0 tokens (length source)
  pub slices : All (IsSlice source) tokens
