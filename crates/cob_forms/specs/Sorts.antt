-- Sorts of tokens, as the forms of a program name them.
use Rattle.std.specs.Prelude.{ℕ, Bool, not, ◌&&◌, ◌==◌, nat_le, List, [], ◌∷◌, codes, bytes_eq}
use Rattle.std.specs.List.{list_any}
use Rattle.cob_lex.specs.declared.token.Token.{Token}
use Rattle.cob_lex.specs.declared.token.TokenKind.{TokenKind}
use Rattle.cob_lex.specs.declared.token.TokenKind.TheVariants as tokens

abbrev pub reserved_words : List (List ℕ)
reserved_words =
    codes "ACCEPT" ∷ codes "ADD" ∷ codes "ADVANCING" ∷ codes "AFTER" ∷ codes "AND" ∷ codes "AUTHOR" ∷ codes "BEFORE"
    ∷ codes "CD" ∷ codes "COMMUNICATION" ∷ codes "CONFIGURATION" ∷ codes "COUNT" ∷ codes "DATA" ∷ codes "DATE"
    ∷ codes "DATE-COMPILED" ∷ codes "DATE-WRITTEN" ∷ codes "DESTINATION" ∷ codes "DISABLE" ∷ codes "DIVISION"
    ∷ codes "EGI" ∷ codes "ELSE" ∷ codes "EMI" ∷ codes "ENABLE" ∷ codes "END" ∷ codes "ENVIRONMENT" ∷ codes "EQUAL"
    ∷ codes "ERROR" ∷ codes "ESI" ∷ codes "EXIT" ∷ codes "FILLER" ∷ codes "FOR" ∷ codes "FROM" ∷ codes "GO"
    ∷ codes "GREATER" ∷ codes "IDENTIFICATION" ∷ codes "IF" ∷ codes "INITIAL" ∷ codes "INPUT" ∷ codes "INSTALLATION"
    ∷ codes "INTO" ∷ codes "IS" ∷ codes "KEY" ∷ codes "LENGTH" ∷ codes "LESS" ∷ codes "LINE" ∷ codes "LINES"
    ∷ codes "MESSAGE" ∷ codes "MOVE" ∷ codes "NO" ∷ codes "NOT" ∷ codes "NUMERIC" ∷ codes "OBJECT-COMPUTER"
    ∷ codes "OCCURS" ∷ codes "OR" ∷ codes "OUTPUT" ∷ codes "PAGE" ∷ codes "PERFORM" ∷ codes "PIC" ∷ codes "PICTURE"
    ∷ codes "PROCEDURE" ∷ codes "PROGRAM-ID" ∷ codes "QUEUE" ∷ codes "RECEIVE" ∷ codes "RUN" ∷ codes "SECTION"
    ∷ codes "SECURITY" ∷ codes "SEGMENT" ∷ codes "SEND" ∷ codes "SOURCE" ∷ codes "SOURCE-COMPUTER" ∷ codes "SPACE"
    ∷ codes "SPACES" ∷ codes "STATUS" ∷ codes "STOP" ∷ codes "SUB-QUEUE-1" ∷ codes "SUB-QUEUE-2" ∷ codes "SUB-QUEUE-3"
    ∷ codes "SUBTRACT" ∷ codes "SYMBOLIC" ∷ codes "TABLE" ∷ codes "TERMINAL" ∷ codes "TEXT" ∷ codes "THAN"
    ∷ codes "THROUGH" ∷ codes "THRU" ∷ codes "TIME" ∷ codes "TIMES" ∷ codes "TO" ∷ codes "UNTIL" ∷ codes "VALUE"
    ∷ codes "WITH" ∷ codes "WORKING-STORAGE" ∷ codes "ZERO" ∷ codes "ZEROES" ∷ codes "ZEROS" ∷ []

abbrev pub is_reserved : List ℕ → Bool
is_reserved text = list_any (λ word. bytes_eq text word) reserved_words

-- what a form asks of a token
pub data Sort : Type 0 where
  -- this reserved word
  reserved : List ℕ → Sort
  -- a word that is not reserved
  name : Sort
  -- any word
  any_word : Sort
  -- any token of a kind
  of_kind : TokenKind → Sort

abbrev pub kind_code : TokenKind → ℕ
kind_code tokens.Word = 0
kind_code tokens.Number = 1
kind_code tokens.Literal = 2
kind_code tokens.Picture = 3
kind_code tokens.Period = 4
kind_code tokens.Open = 5
kind_code tokens.Close = 6
kind_code tokens.Equal = 7
kind_code tokens.Greater = 8
kind_code tokens.Less = 9

abbrev pub is_of_kind : TokenKind → Token → Bool
is_of_kind kind token = kind_code token.kind == kind_code kind

-- whether a token is of a sort
abbrev pub is : Sort → Token → Bool
is (reserved text) token = is_of_kind tokens.Word token && bytes_eq token.text text
is name token = is_of_kind tokens.Word token && not (is_reserved token.text)
is any_word token = is_of_kind tokens.Word token
is (of_kind k) token = is_of_kind k token

-- it begins in area A
abbrev pub in_area_a : Token → Bool
in_area_a token = nat_le 8 token.column && nat_le token.column 11
