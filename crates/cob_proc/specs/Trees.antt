-- A Procedure Division as trees: what its statements and conditions are, without where they lie in memory.
use Rattle.std.specs.Prelude.{Bool, List, [], ◌∷◌, map, Option}
use Rattle.cob_forms.specs.declared.written.Position.{Position}
use Rattle.cob_forms.specs.declared.written.Name.{Name}
use Rattle.cob_proc.specs.declared.tree.Addend.{Addend}
use Rattle.cob_proc.specs.declared.tree.Condition.{Condition}
use Rattle.cob_proc.specs.declared.tree.Ending.{Ending}
use Rattle.cob_proc.specs.declared.tree.Identifier.{Identifier}
use Rattle.cob_proc.specs.declared.tree.Key.{Key}
use Rattle.cob_proc.specs.declared.tree.Operand.{Operand}
use Rattle.cob_proc.specs.declared.tree.Paragraph.{Paragraph}
use Rattle.cob_proc.specs.declared.tree.Procedure.{Procedure}
use Rattle.cob_proc.specs.declared.tree.Repetition.{Repetition}
use Rattle.cob_proc.specs.declared.tree.Statement.{Statement}
use Rattle.cob_proc.specs.declared.tree.Statement.TheOpen.{Statement-F}
use Rattle.cob_proc.specs.declared.tree.Statement.TheFolds.{fold-Statement}

-- the statements in which no others stand
pub data Plain : Type 0 where
  moves : (source : Operand) (targets : List Identifier) → Plain
  adds : (addend : Addend) (target : Identifier) → Plain
  subtracts : (addend : Addend) (target : Identifier) → Plain
  performs : (first : Name) (last : Option Name) (repetition : Repetition) → Plain
  goes : (target : Name) → Plain
  exits : Plain
  stops : Plain
  sends : (cd : Name) (from : Option Identifier) (ending : Option Ending) → Plain
  switches_input : (on terminal : Bool) (cd : Name) (key : Key) → Plain
  switches_output : (on : Bool) (cd : Name) (key : Key) → Plain
  accepts : (cd : Name) → Plain

mutual
  pub data Tree : Type 0 where
    plain : (statement : Plain) → Tree
    branches : (position : Position) (condition : Condition) (holds otherwise : Block) → Tree
    receives : (cd : Name) (segment : Bool) (into : Identifier) (no_data : Block) → Tree

  -- statements one after another; none where an ELSE or a NO DATA is not written
  pub data Block : Type 0 where
    none : Block
    lead : (first : Tree) (others : Block) → Block

-- a paragraph: its name, and its sentences
pub record ParagraphTree : Type 0 where
  pub name : Name
  pub sentences : List Block

abbrev pub block_of : List Tree → Block
block_of [] = none
block_of (tree ∷ trees) = lead tree (block_of trees)

-- one statement, with the tree of each statement in it in its place
abbrev pub tree_step : Statement-F Tree → Tree
tree_step (Statement-F.Move source targets) = plain (moves source targets)
tree_step (Statement-F.Add addend target) = plain (adds addend target)
tree_step (Statement-F.Subtract addend target) = plain (subtracts addend target)
tree_step (Statement-F.If position condition holds otherwise) =
    branches position condition (block_of holds.items) (block_of otherwise.items)
tree_step (Statement-F.Perform first last repetition) = plain (performs first last repetition)
tree_step (Statement-F.Go target) = plain (goes target)
tree_step Statement-F.Exit = plain exits
tree_step Statement-F.Stop = plain stops
tree_step (Statement-F.Receive cd segment into no_data) = receives cd segment into (block_of no_data.items)
tree_step (Statement-F.Send cd from ending) = plain (sends cd from ending)
tree_step (Statement-F.SwitchInput on terminal cd key) = plain (switches_input on terminal cd key)
tree_step (Statement-F.SwitchOutput on cd key) = plain (switches_output on cd key)
tree_step (Statement-F.Accept cd) = plain (accepts cd)

abbrev pub tree_of : Statement → Tree
tree_of = fold-Statement Tree tree_step

abbrev pub trees_of : List Statement → List Tree
trees_of statements = map tree_of statements

abbrev pub paragraph_tree : Paragraph → ParagraphTree
paragraph_tree paragraph = record { name = paragraph.name; sentences = map (λ sentence. block_of (trees_of sentence.items)) paragraph.sentences }

abbrev pub procedure_trees : Procedure → List ParagraphTree
procedure_trees procedure = map paragraph_tree procedure.paragraphs
