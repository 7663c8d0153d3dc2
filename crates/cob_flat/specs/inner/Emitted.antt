-- What was added to the code.
use Rattle.std.specs.Prelude.{◌≡◌, ◌<◌, ℕ, List, ◌++◌, Some, slice_get, slice_index}
use Rattle.cob_proc.specs.Trees.{Tree, Block, ParagraphTree}
use Rattle.cob_meaning.specs.Layouts.{Layout}
use Rattle.cob_flat.specs.declared.code.Instruction.{Instruction}
use Rattle.cob_flat.specs.Flat.{Does, DoesAll, DoesSentences, DoesParagraph}

-- code with more behind it
abbrev pub Extends : List Instruction → List Instruction → Type 0
Extends code all = (more : List Instruction) × (all ≡ code ++ more)

-- an instruction is at a place, whatever is added yet
abbrev pub IsPut : List Instruction → ℕ → Instruction → Type 0
IsPut code place i = (all : List Instruction) → Extends code all → slice_get all place ≡ Some i

module _ (layout : Layout) (text : List ParagraphTree) where
  -- whatever is added yet, the code does a statement
  abbrev pub IsEmitted : List Instruction → Tree → ℕ → ℕ → Type 0
  IsEmitted code statement place next = (all : List Instruction) → Extends code all → Does layout text all statement place next

  -- it does statements one after another
  abbrev pub AreEmitted : List Instruction → Block → ℕ → ℕ → Type 0
  AreEmitted code block place next = (all : List Instruction) → Extends code all → DoesAll layout text all block place next

  -- it does sentences
  abbrev pub SentencesEmitted : List Instruction → List Block → ℕ → ℕ → Type 0
  SentencesEmitted code sentences place next = (all : List Instruction) → Extends code all → DoesSentences layout text all sentences place next

  -- it does a paragraph
  abbrev pub IsParagraphEmitted : List Instruction → ParagraphTree → ℕ → Type 0
  IsParagraphEmitted code paragraph place = (all : List Instruction) → Extends code all → DoesParagraph layout text all paragraph place

  -- it does the first paragraphs of the text
  abbrev pub BelowEmitted : List Instruction → List ℕ → ℕ → Type 0
  BelowEmitted code starts n =
      (all : List Instruction) → Extends code all → (k : ℕ) (p : ParagraphTree) → k < n → slice_get text k ≡ Some p → DoesParagraph layout text all p (slice_index starts k)
