-- The tokens of a source, or its first fault.
use Rattle.std.specs.Prelude.{ℕ, zero, suc, ◌+◌, ◌-◌, List, [], ◌∷◌, ◌++◌, length, take, Option, Some, None, Result, Ok, Err}
use Rattle.std.specs.List.{position_from}
use Rattle.cob_lex.specs.declared.fault.SourceFault.{SourceFault}
use Rattle.cob_lex.specs.declared.fault.SourceKind.{SourceKind}
use Rattle.cob_lex.specs.declared.fault.SourceKind.TheVariants as faults
use Rattle.cob_lex.specs.declared.token.Token.{Token}
use Rattle.cob_lex.specs.declared.token.TokenKind.{TokenKind}
use Rattle.cob_lex.specs.declared.lines.Place.{Place}
use Rattle.cob_lex.specs.declared.lines.LineKind.{LineKind}
use Rattle.cob_lex.specs.declared.lines.LineKind.TheVariants as kinds
use Rattle.cob_lex.specs.declared.front.Awaited.{Awaited}
use Rattle.cob_lex.specs.declared.front.Awaited.TheVariants as awaited
use Rattle.cob_lex.specs.declared.front.Front.{Front}
use Rattle.cob_lex.specs.declared.front.Front.TheVariants as fronts
use Rattle.cob_lex.specs.Characters.{is_no_text_byte}
use Rattle.cob_lex.specs.Lines.{Line, source_lines, text_of}
use Rattle.cob_lex.specs.Fronts.{front_of, awaited_behind}

infixr 10 ◌>>=◌
abbrev pub ◌>>=◌ : {A B : Type 0} → Result A SourceFault → (A → Result B SourceFault) → Result B SourceFault
(Ok x) >>= next = next x
(Err fault) >>= next = Err fault

-- a fault so many bytes after the first byte of its line
abbrev pub fault_at : Place → ℕ → SourceKind → SourceFault
fault_at place at kind = record { line = place.line; column = at + 1; kind = kind }

-- a token so many bytes after the first byte of its line
abbrev pub token_at : Place → ℕ → TokenKind → List ℕ → Token
token_at place at kind text = record {
  kind = kind;
  start = place.start + at;
  past = place.start + at + length text;
  line = place.line;
  column = at + 1;
  text = text;
}

-- the token, where each of its bytes is a character of a text
abbrev pub sound_token : Place → ℕ → TokenKind → List ℕ → Option ℕ → Result Token SourceFault
sound_token place at kind text None = Ok (token_at place at kind text)
sound_token place at kind text (Some bad) = Err (fault_at place bad faults.BadCharacter)

abbrev pub token_of : Place → ℕ → TokenKind → List ℕ → Result Token SourceFault
token_of place at kind text = sound_token place at kind text (position_from is_no_text_byte at text)

-- tokens, and what is awaited after them
pub record Taken : Type 0 where
  pub tokens : List Token
  pub awaited : Awaited

abbrev pub taken : List Token → Awaited → Taken
taken tokens awaited = record { tokens = tokens; awaited = awaited }

abbrev pub with_token : Token → Taken → Taken
with_token token others = taken (token ∷ others.tokens) others.awaited

-- by what stands at the beginning of a rest, and what comes of the rest after so many more bytes
abbrev pub by_front : Awaited → Place → ℕ → List ℕ → Front → (Awaited → ℕ → Result Taken SourceFault) → Result Taken SourceFault
by_front awaits place at rest fronts.Spacing next = next awaits 0
by_front awaits place at rest (fronts.Token kind length) next = do
  token ← token_of place at kind (take length rest)
  others ← next (awaited_behind awaits kind (take length rest)) (length - 1)
  Ok (with_token token others)
by_front awaits place at rest (fronts.Fault kind) next = Err (fault_at place at kind)

-- the tokens of a rest that is so many bytes after the first byte of its line; some bytes at its
-- front belong to the token before
unfoldable pub text_tokens : Awaited → ℕ → Place → ℕ → List ℕ → Result Taken SourceFault
text_tokens awaits behind place at [] = Ok (taken [] awaits)
text_tokens awaits (suc behind) place at (byte ∷ rest) = text_tokens awaits behind place (at + 1) rest
text_tokens awaits zero place at (byte ∷ rest) =
    by_front awaits place at (byte ∷ rest) (front_of awaits (byte ∷ rest)) (λ next behind. text_tokens next behind place (at + 1) rest)

-- the tokens of a line
abbrev pub line_tokens : Awaited → Place → List ℕ → LineKind → Result Taken SourceFault
line_tokens awaits place bytes kinds.Comment = Ok (taken [] awaits)
line_tokens awaits place bytes kinds.CommentParagraph = Ok (taken [] awaits)
line_tokens awaits place bytes kinds.BadColumn = Err (fault_at place 6 faults.BadColumn)
line_tokens awaits place bytes kinds.Text = text_tokens awaits 0 place 7 (text_of bytes)

-- the tokens of lines, one after another
unfoldable pub lines_tokens : Awaited → List Line → Result (List Token) SourceFault
lines_tokens awaits [] = Ok []
lines_tokens awaits (line ∷ lines) = do
  here ← line_tokens awaits line.place line.bytes line.kind
  others ← lines_tokens here.awaited lines
  Ok (here.tokens ++ others)

-- the tokens of a source, or its first fault
abbrev pub tokens_of : List ℕ → Result (List Token) SourceFault
tokens_of source = lines_tokens awaited.Nothing (source_lines source)
