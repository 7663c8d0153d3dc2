-- What the code of a program is.
use Rattle.std.specs.Prelude.{◌≡◌, ◌⊎◌, ℕ, ◌-◌, ◌<◌, ◌≤◌, List, [], ◌∷◌, Some, length, slice_get, slice_index}
use Rattle.cob_proc.specs.Trees.{Plain, performs, goes, Tree, plain, branches, receives, Block, none, lead, ParagraphTree}
use Rattle.cob_meaning.specs.Meaning.{Program, last_of, paragraph_number}
use Rattle.cob_meaning.specs.Ranges.{IsPerformed, Performing}
use Rattle.cob_flat.specs.declared.code.Instruction.{Instruction}
use Rattle.cob_flat.specs.Flat.{DoesParagraph}

-- a range of a text: one that is performed, or the whole text
abbrev pub IsRangeOf : List ParagraphTree → ℕ → ℕ → Type 0
IsRangeOf text first last =
    ((first ≡ 0) × (last ≡ length text - 1))
    ⊎ ((p : Performing) × IsPerformed text p
    × (first ≡ paragraph_number text p.first)
    × (last ≡ paragraph_number text (last_of p.first p.last)))

-- statements of the paragraph with the number k
module _ (text : List ParagraphTree) (k : ℕ) where
  -- a GO leaves no range that its paragraph is in, and a PERFORM performs a range of the text
  abbrev pub StaysPlain : Plain → Type 0
  StaysPlain (goes target) =
      (first last : ℕ) → IsRangeOf text first last → first ≤ k → k ≤ last
      → (first ≤ paragraph_number text target) × (paragraph_number text target ≤ last)
  StaysPlain (performs first last often) =
      IsRangeOf text (paragraph_number text first) (paragraph_number text (last_of first last))
      × (paragraph_number text first ≤ paragraph_number text (last_of first last))
      × (paragraph_number text (last_of first last) < length text)
  StaysPlain _ = Unit {0}

  abbrev mutual
    -- so do the GOs and PERFORMs in a statement
    pub Stays : Tree → Type 0
    Stays (plain statement) = StaysPlain statement
    Stays (branches position condition one other) = StayAll one × StayAll other
    Stays (receives cd segment into no_data) = StayAll no_data

    -- those in statements
    pub StayAll : Block → Type 0
    StayAll none = Unit {0}
    StayAll (lead statement others) = Stays statement × StayAll others

  -- those in sentences
  abbrev pub StaySentences : List Block → Type 0
  StaySentences [] = Unit {0}
  StaySentences (sentence ∷ others) = StayAll sentence × StaySentences others

-- the code of a program, with the place at which each of its paragraphs begins
pub record IsCompiled (program : Program) (code : List Instruction) (starts : List ℕ) : Type 0 where
  pub some : 0 < length program.text
  pub as_long : length starts ≡ length program.text
  pub does : (k : ℕ) (p : ParagraphTree) → slice_get program.text k ≡ Some p
      → DoesParagraph program.layout program.text code p (slice_index starts k)
  pub stays : (k : ℕ) (p : ParagraphTree) → slice_get program.text k ≡ Some p
      → StaySentences program.text k p.sentences
