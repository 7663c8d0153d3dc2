-- Readers of operands and conditions.
use Rattle.std.specs.Prelude.{ℕ, Bool, List, [], ◌∷◌, codes}
use Rattle.cob_lex.specs.declared.token.Token.{Token}
use Rattle.cob_lex.specs.declared.token.TokenKind.TheVariants as tokens
use Rattle.cob_forms.specs.declared.written.Position.{Position}
use Rattle.cob_forms.specs.Sorts.{is, name, of_kind, reserved}
use Rattle.cob_forms.specs.Written.{position_of}
use Rattle.cob_forms.specs.Readers.{Reader, ◌>>=◌, ◌>>◌, found, one, at, maybe, optional, more, some, read_name, read_number, read_literal}
use Rattle.cob_proc.specs.declared.tree.Addend.{Addend}
use Rattle.cob_proc.specs.declared.tree.Addend.TheVariants as addends
use Rattle.cob_proc.specs.declared.tree.Condition.{Condition}
use Rattle.cob_proc.specs.declared.tree.Identifier.{Identifier}
use Rattle.cob_proc.specs.declared.tree.Joint.TheVariants as joints
use Rattle.cob_proc.specs.declared.tree.Key.{Key}
use Rattle.cob_proc.specs.declared.tree.Key.TheVariants as keys
use Rattle.cob_proc.specs.declared.tree.Operand.{Operand}
use Rattle.cob_proc.specs.declared.tree.Operand.TheVariants as operands
use Rattle.cob_proc.specs.declared.tree.Relation.{Relation}
use Rattle.cob_proc.specs.declared.tree.Relation.TheVariants as relations
use Rattle.cob_proc.specs.declared.tree.Simple.{Simple}
use Rattle.cob_proc.specs.declared.tree.Simple.TheVariants as simples
use Rattle.cob_proc.specs.declared.tree.Subscript.{Subscript}
use Rattle.cob_proc.specs.declared.tree.Subscript.TheVariants as subscripts
use Rattle.cob_proc.specs.Forms as forms
use Rattle.cob_proc.specs.Spelled.{begins_form, open_sign, close_sign}

-- a reserved word
abbrev pub word : List ℕ → Reader Token
word text = one (reserved text)

-- what stands in the parentheses of a subscript
unfoldable pub subscript_value : Position → Reader Subscript
subscript_value position =
    at (is name) (read_name >>= λ item. found (subscripts.Item position item))
    (read_number >>= λ number. found (subscripts.Number position number))

unfoldable pub subscript : Reader Subscript
subscript = do
  sign ← one open_sign
  value ← subscript_value (position_of sign)
  _ ← one close_sign
  found value

unfoldable pub identifier : Reader Identifier
identifier = do
  item ← read_name
  behind ← maybe (begins_form forms.subscript) subscript
  found (record { name = item; subscript = behind })

-- one identifier or more
unfoldable pub identifiers : Reader (List Identifier)
identifiers = some (begins_form forms.identifier) identifier

-- a word that stands for an operand
abbrev pub figurative : List ℕ → (Position → Operand) → Reader Operand
figurative text operand = word text >>= λ t. found (operand (position_of t))

-- what is no identifier
unfoldable pub constant : Reader Operand
constant =
    at (is (of_kind tokens.Literal)) (read_literal >>= λ literal. found (operands.Literal literal))
    (at (is (of_kind tokens.Number)) (read_number >>= λ number. found (operands.Number number))
    (at (is (reserved (codes "SPACE"))) (figurative (codes "SPACE") operands.Spaces)
    (at (is (reserved (codes "SPACES"))) (figurative (codes "SPACES") operands.Spaces)
    (at (is (reserved (codes "ZERO"))) (figurative (codes "ZERO") operands.Zeros)
    (at (is (reserved (codes "ZEROS"))) (figurative (codes "ZEROS") operands.Zeros)
    (figurative (codes "ZEROES") operands.Zeros))))))

unfoldable pub operand : Reader Operand
operand = at (is name) (identifier >>= λ item. found (operands.Item item)) constant

-- an identifier or a number
unfoldable pub addend : Reader Addend
addend =
    at (is name) (identifier >>= λ item. found (addends.Item item))
    (read_number >>= λ number. found (addends.Number number))

-- an identifier or a literal
unfoldable pub key : Reader Key
key =
    at (is name) (identifier >>= λ item. found (keys.Item item))
    (read_literal >>= λ literal. found (keys.Literal literal))

-- a relation, with the word that may follow it
unfoldable pub relation : Reader Relation
relation =
    at (is (of_kind tokens.Equal)) (one (of_kind tokens.Equal) >> found relations.Equal)
    (at (is (reserved (codes "EQUAL"))) (word (codes "EQUAL") >> optional (reserved (codes "TO")) >> found relations.Equal)
    (at (is (of_kind tokens.Greater)) (one (of_kind tokens.Greater) >> found relations.Greater)
    (at (is (reserved (codes "GREATER"))) (word (codes "GREATER") >> optional (reserved (codes "THAN")) >> found relations.Greater)
    (at (is (of_kind tokens.Less)) (one (of_kind tokens.Less) >> found relations.Less)
    (word (codes "LESS") >> optional (reserved (codes "THAN")) >> found relations.Less)))))

-- what an operand is compared with
unfoldable pub compared : Operand → Bool → Reader Simple
compared left denied = do
  how ← relation
  right ← operand
  found (simples.Compares left denied how right)

-- the same, or NUMERIC, of an identifier
unfoldable pub tested : Identifier → Bool → Reader Simple
tested item denied =
    at (is (reserved (codes "NUMERIC"))) (word (codes "NUMERIC") >> found (simples.Numeric item denied))
    (compared (operands.Item item) denied)

-- [IS] [NOT], and what comes behind
unfoldable pub perhaps_denied : (Bool → Reader Simple) → Reader Simple
perhaps_denied behind = do
  _ ← optional (reserved (codes "IS"))
  denied ← optional (reserved (codes "NOT"))
  behind denied

unfoldable pub simple : Reader Simple
simple =
    at (is name) (identifier >>= λ item. perhaps_denied (tested item))
    (constant >>= λ left. perhaps_denied (compared left))

-- a further simple condition, behind AND or OR
unfoldable pub joined_part : List ℕ → Reader Simple
joined_part text = word text >> simple

unfoldable pub joined : List ℕ → Simple → Reader (List Simple)
joined text first = more (is (reserved text)) (joined_part text) first

unfoldable pub condition : Reader Condition
condition = do
  first ← simple
  at (is (reserved (codes "AND"))) (joined (codes "AND") first >>= λ parts. found (record { joint = joints.And; parts = parts }))
      (at (is (reserved (codes "OR"))) (joined (codes "OR") first >>= λ parts. found (record { joint = joints.Or; parts = parts }))
      (found (record { joint = joints.Alone; parts = first ∷ [] })))
