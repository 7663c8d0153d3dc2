-- Words, numbers and literals by their tokens.
use Rattle.std.specs.Prelude.{ℕ, ◌-◌, List, length, take, drop}
use Rattle.cob_lex.specs.declared.token.Token.{Token}
use Rattle.cob_lex.specs.Literals.{characters_of}
use Rattle.cob_forms.specs.declared.written.Position.{Position}
use Rattle.cob_forms.specs.declared.written.Name.{Name}
use Rattle.cob_forms.specs.declared.written.Number.{Number}
use Rattle.cob_forms.specs.declared.written.Literal.{Literal}

abbrev pub position_of : Token → Position
position_of t = record { line = t.line; column = t.column }

abbrev pub name_of : Token → Name
name_of t = record { text = t.text; position = position_of t }

abbrev pub number_of : Token → Number
number_of t = record { digits = t.text; position = position_of t }

-- what stands between the quotation marks of a literal
abbrev pub between_marks : List ℕ → List ℕ
between_marks text = take (length text - 2) (drop 1 text)

abbrev pub literal_of : Token → Literal
literal_of t = record { characters = characters_of (between_marks t.text); position = position_of t }
