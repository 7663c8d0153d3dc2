-- Tokens and faults as the worked sources write them.
use Rattle.std.proofs.Common.{ℕ, ◌-◌, List, map}
use Rattle.cob_lex.specs.declared.fault.SourceFault.{SourceFault}
use Rattle.cob_lex.specs.declared.fault.SourceKind.{SourceKind}
use Rattle.cob_lex.specs.declared.token.Token.{Token}
use Rattle.cob_lex.specs.declared.token.TokenKind.{TokenKind}
use Rattle.cob_lex.specs.declared.token.TokenKind.TheVariants as kinds
use Rattle.cob_lex.specs.declared.lines.Place.{Place}
use Rattle.cob_lex.specs.Lines.{place}
use Rattle.cob_lex.specs.Lexing.{token_at}

-- tokens of a line, whose first byte is at this place of the source
abbrev pub on : ℕ → ℕ → List (Place → Token) → List Token
on line start tokens = map (λ (token : Place → Token). token (place line start)) tokens

abbrev pub written : TokenKind → ℕ → List ℕ → Place → Token
written kind column text place = token_at place (column - 1) kind text

abbrev pub word : ℕ → List ℕ → Place → Token
word column text = written kinds.Word column text

abbrev pub number : ℕ → List ℕ → Place → Token
number column text = written kinds.Number column text

abbrev pub literal : ℕ → List ℕ → Place → Token
literal column text = written kinds.Literal column text

abbrev pub picture : ℕ → List ℕ → Place → Token
picture column text = written kinds.Picture column text

abbrev pub period : ℕ → List ℕ → Place → Token
period column text = written kinds.Period column text

abbrev pub opening : ℕ → List ℕ → Place → Token
opening column text = written kinds.Open column text

abbrev pub closing : ℕ → List ℕ → Place → Token
closing column text = written kinds.Close column text

abbrev pub equal : ℕ → List ℕ → Place → Token
equal column text = written kinds.Equal column text

abbrev pub greater : ℕ → List ℕ → Place → Token
greater column text = written kinds.Greater column text

abbrev pub less : ℕ → List ℕ → Place → Token
less column text = written kinds.Less column text

abbrev pub fault : ℕ → ℕ → SourceKind → SourceFault
fault line column kind = record { line = line; column = column; kind = kind }
