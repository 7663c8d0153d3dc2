-- The numbers and literals among the tokens of a source have their sizes.
use Rattle.std.proofs.Common.{◌≡◌, ◌≤◌, ℕ, true, List, [], ◌∷◌, ◌++◌, length, Ok, subst, sym}
use Rattle.std.specs.List.{AllByRecursion}
use Rattle.com_text.specs.Text.{IsText}
use Rattle.cob_lex.specs.declared.front.Awaited.{Awaited}
use Rattle.cob_lex.specs.declared.front.Awaited.TheVariants as awaited
use Rattle.cob_lex.specs.declared.lines.LineKind.{LineKind}
use Rattle.cob_lex.specs.declared.lines.LineKind.TheVariants as lines
use Rattle.cob_lex.specs.declared.lines.Place.{Place}
use Rattle.cob_lex.specs.declared.token.Token.{Token}
use Rattle.cob_lex.specs.declared.token.TokenKind.{TokenKind}
use Rattle.cob_lex.specs.declared.token.TokenKind.TheVariants as tokens
use Rattle.cob_lex.specs.Fronts.{is_number}
use Rattle.cob_lex.specs.Lexing.{tokens_of}
use Rattle.cob_lex.specs.Lines.{Line}
use Rattle.cob_lex.specs.Literals.{is_literal}
use Rattle.cob_lex.specs.Spelled.{AreLines, IsLine, IsLongest, IsSpelled, after_line, after_spacing, after_token, ends, no_line}
use Rattle.cob_lex.proofs.SpelledPlaces.{tokens_spelled}

-- a literal between its quotation marks
pub record IsMarked (text : List ℕ) : Type 0 where
  pub inside : List ℕ
  pub written : text ≡ 0x22 ∷ (inside ++ 0x22 ∷ [])
  pub sized : is_literal inside ≡ true

-- what a number and a literal are
abbrev pub IsSized : TokenKind → List ℕ → Type 0
IsSized tokens.Number text = is_number text ≡ true
IsSized tokens.Literal text = IsMarked text
IsSized _ text = Unit {0}

pub record IsSizedToken (t : Token) : Type 0 where
  pub some : 1 ≤ length t.text
  pub text : IsText t.text
  pub sized : IsSized t.kind t.text

as_kind : (awaits : Awaited) (kind : TokenKind) (text behind : List ℕ) → IsLongest awaits kind text behind → IsSized kind text
as_kind awaited.Nothing tokens.Number text behind longest = longest.0
as_kind awaited.Nothing tokens.Literal text behind longest = record { inside = longest.inside; written = longest.written; sized = longest.sized }
as_kind awaited.IsOrPicture tokens.Number text behind longest = absurd longest
as_kind awaited.IsOrPicture tokens.Literal text behind longest = absurd longest
as_kind awaited.Picture tokens.Number text behind longest = absurd longest
as_kind awaited.Picture tokens.Literal text behind longest = absurd longest
as_kind awaits tokens.Word text behind longest = tt
as_kind awaits tokens.Picture text behind longest = tt
as_kind awaits tokens.Period text behind longest = tt
as_kind awaits tokens.Open text behind longest = tt
as_kind awaits tokens.Close text behind longest = tt
as_kind awaits tokens.Equal text behind longest = tt
as_kind awaits tokens.Greater text behind longest = tt
as_kind awaits tokens.Less text behind longest = tt

rest_sized : {awaits next : Awaited} {place : Place} {at : ℕ} {rest : List ℕ} {ts : List Token} → IsSpelled awaits place at rest ts next → AllByRecursion IsSizedToken ts
rest_sized ends = tt
rest_sized (after_spacing e s) = rest_sized s
rest_sized (after_token {awaits = awaits} {behind = behind} {token = token} e t s) =
    (record { some = t.some; text = t.characters; sized = as_kind awaits token.kind token.text behind t.longest }, rest_sized s)

both_sized : (xs ys : List Token) → AllByRecursion IsSizedToken xs → AllByRecursion IsSizedToken ys → AllByRecursion IsSizedToken (xs ++ ys)
both_sized [] ys a b = b
both_sized (x ∷ xs) ys a b = (a.0, both_sized xs ys a.1 b)

line_sized : (kind : LineKind) (awaits next : Awaited) (place : Place) (bytes : List ℕ) (ts : List Token) → IsLine kind awaits place bytes ts next → AllByRecursion IsSizedToken ts
line_sized lines.Comment awaits next place bytes ts h = subst (AllByRecursion IsSizedToken) (sym h.0) tt
line_sized lines.CommentParagraph awaits next place bytes ts h = subst (AllByRecursion IsSizedToken) (sym h.0) tt
line_sized lines.BadColumn awaits next place bytes ts h = absurd h
line_sized lines.Text awaits next place bytes ts h = rest_sized h

lines_sized : {awaits : Awaited} {ls : List Line} {ts : List Token} → AreLines awaits ls ts → AllByRecursion IsSizedToken ts
lines_sized no_line = tt
lines_sized (after_line {awaits = awaits} {next = next} {line = line} here others e l rest) =
    subst (AllByRecursion IsSizedToken) (sym e) (both_sized here others (line_sized line.kind awaits next line.place line.bytes here l) (lines_sized rest))

pub tokens_sized : (source : List ℕ) (ts : List Token) → tokens_of source ≡ Ok ts → AllByRecursion IsSizedToken ts
tokens_sized source ts e = lines_sized (tokens_spelled source ts e).spelled
