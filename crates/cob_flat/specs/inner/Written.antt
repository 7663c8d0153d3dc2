-- The trees of statements, as the statements are matched.
use Rattle.std.specs.Prelude.{List, map}
use Rattle.std.specs.List.{AllByRecursion}
use Rattle.cob_proc.specs.declared.tree.Paragraph.{Paragraph}
use Rattle.cob_proc.specs.declared.tree.Statement.{Statement, Move, Add, Subtract, If', Perform, Go, Exit, Stop, Receive', Send, SwitchInput, SwitchOutput, Accept, Row_of-Statement, end_of-Statement, more_of-Statement}
use Rattle.cob_proc.specs.Trees.{moves, adds, subtracts, performs, goes, exits, stops, sends, switches_input, switches_output, accepts, Tree, plain, branches, receives, Block, none, lead, block_of, ParagraphTree, paragraph_tree}
use Rattle.cob_meaning.specs.Checked.{AreChecked, IsCheckedStatement}
use Rattle.cob_meaning.specs.Layouts.{Layout}

abbrev mutual
  -- the tree of a statement
  pub written : Statement → Tree
  written (Move source targets) = plain (moves source targets)
  written (Add addend target) = plain (adds addend target)
  written (Subtract addend target) = plain (subtracts addend target)
  written (If' position condition _ one _ other) = branches position condition (block one) (block other)
  written (Perform first last often) = plain (performs first last often)
  written (Go target) = plain (goes target)
  written Exit = plain exits
  written Stop = plain stops
  written (Receive' cd segment into _ no_data) = receives cd segment into (block no_data)
  written (Send cd from ending) = plain (sends cd from ending)
  written (SwitchInput on terminal cd key) = plain (switches_input on terminal cd key)
  written (SwitchOutput on cd key) = plain (switches_output on cd key)
  written (Accept cd) = plain (accepts cd)

  -- the block of statements in another one
  pub block : {m : _} → Row_of-Statement m → Block
  block end_of-Statement = none
  block (more_of-Statement one others) = lead (written one) (block others)

-- statements as a block
abbrev pub block_by : List Statement → Block
block_by statements = block_of (map written statements)

module _ (layout : Layout) (text : List ParagraphTree) where
  -- a statement of a text that was checked
  pub record IsSound (statement : Statement) : Type 0 where
    pub checked : IsCheckedStatement layout text (written statement)

  -- statements of such a text
  pub record AreSound (statements : List Statement) : Type 0 where
    pub checked : AreChecked layout text (block_by statements)

  -- a paragraph of such a text
  pub record IsSoundParagraph (paragraph : Paragraph) : Type 0 where
    pub checked : AllByRecursion (AreChecked layout text) (paragraph_tree paragraph).sentences

  -- paragraphs of such a text
  abbrev pub AreSoundParagraphs : List Paragraph → Type 0
  AreSoundParagraphs = AllByRecursion IsSoundParagraph
