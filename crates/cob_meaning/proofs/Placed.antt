-- Trees with the places of their words.
use Rattle.std.proofs.Common.{ℕ, List, map, None}
use Rattle.cob_forms.specs.declared.written.Literal.{Literal}
use Rattle.cob_forms.specs.declared.written.Name.{Name}
use Rattle.cob_forms.specs.declared.written.Number.{Number}
use Rattle.cob_forms.specs.declared.written.Position.{Position}
use Rattle.cob_proc.specs.declared.tree.Identifier.{Identifier}
use Rattle.cob_proc.specs.declared.tree.Operand.{Operand}
use Rattle.cob_proc.specs.declared.tree.Operand.TheVariants as operands
use Rattle.cob_proc.specs.Trees.{Tree, ParagraphTree, block_of}

-- where something stands, in its line and column
abbrev pub at : ℕ → ℕ → Position
at line column = record { line = line; column = column }

abbrev pub name_at : ℕ → ℕ → List ℕ → Name
name_at line column text = record { text = text; position = at line column }

abbrev pub item_at : ℕ → ℕ → List ℕ → Identifier
item_at line column text = record { name = name_at line column text; subscript = None }

abbrev pub digits_at : ℕ → ℕ → List ℕ → Number
digits_at line column text = record { digits = text; position = at line column }

abbrev pub literal_at : ℕ → ℕ → List ℕ → Literal
literal_at line column text = record { characters = text; position = at line column }

abbrev pub of_item : ℕ → ℕ → List ℕ → Operand
of_item line column text = operands.Item (item_at line column text)

abbrev pub of_literal : ℕ → ℕ → List ℕ → Operand
of_literal line column text = operands.Literal (literal_at line column text)

abbrev pub of_number : ℕ → ℕ → List ℕ → Operand
of_number line column text = operands.Number (digits_at line column text)

-- a paragraph with its sentences, each of some statements
abbrev pub paragraph_at : ℕ → List ℕ → List (List Tree) → ParagraphTree
paragraph_at line text sentences = record { name = name_at line 8 text; sentences = map block_of sentences }
