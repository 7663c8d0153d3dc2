-- The statements of a paragraph one after another, each before those in it, and what each by itself has.
use Rattle.std.specs.Prelude.{ℕ, List, [], ◌∷◌, ◌++◌, flat_map}
use Rattle.cob_lex.specs.declared.fault.SourceFault.{SourceFault}
use Rattle.cob_proc.specs.Trees.{Tree, plain, branches, receives, Block, none, lead, ParagraphTree}
use Rattle.cob_meaning.specs.Layouts.{Layout}
use Rattle.cob_meaning.specs.Names.{any_item, condition_faults, identifier_faults, input_faults, plain_faults}
use Rattle.cob_meaning.specs.Ranges.{Going, Performing, plain_goes, plain_performs}

abbrev mutual
  -- a statement, and those in it
  pub trees_in : Tree → List Tree
  trees_in (plain statement) = plain statement ∷ []
  trees_in (branches position condition one other) = branches position condition one other ∷ (block_trees one ++ block_trees other)
  trees_in (receives cd segment into no_data) = receives cd segment into no_data ∷ block_trees no_data

  -- statements, and those in them
  pub block_trees : Block → List Tree
  block_trees none = []
  block_trees (lead statement others) = trees_in statement ++ block_trees others

-- the statements of a paragraph
abbrev pub all_trees : ParagraphTree → List Tree
all_trees paragraph = flat_map block_trees paragraph.sentences

-- the faults of a statement apart from those in it
abbrev pub own_faults : Layout → List ParagraphTree → Tree → List SourceFault
own_faults layout text (plain statement) = plain_faults layout text statement
own_faults layout text (branches position condition one other) = condition_faults layout condition
own_faults layout text (receives cd segment into no_data) = input_faults layout cd ++ identifier_faults layout any_item into

-- the PERFORM that a statement is
abbrev pub own_performs : ℕ → Tree → List Performing
own_performs k (plain statement) = plain_performs k statement
own_performs k (branches position condition one other) = []
own_performs k (receives cd segment into no_data) = []

-- the GO that a statement is
abbrev pub own_goes : ℕ → Tree → List Going
own_goes k (plain statement) = plain_goes k statement
own_goes k (branches position condition one other) = []
own_goes k (receives cd segment into no_data) = []
