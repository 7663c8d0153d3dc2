-- The pass ranges: which paragraphs PERFORM and GO may name.
use Rattle.std.specs.Prelude.{◌≡◌, ◌≤◌, ◌<◌, ℕ, suc, false, List, [], ◌∷◌, ◌++◌, Contains, flat_map, Option}
use Rattle.cob_lex.specs.declared.fault.SourceFault.{SourceFault}
use Rattle.cob_lex.specs.declared.fault.SourceKind.TheVariants as faults
use Rattle.cob_forms.specs.declared.written.Name.{Name}
use Rattle.cob_forms.specs.Faults.{is_before}
use Rattle.cob_proc.specs.Trees.{Plain, performs, goes, Tree, plain, branches, receives, Block, none, lead, ParagraphTree}
use Rattle.cob_meaning.specs.Meaning.{last_of, paragraph_number}
use Rattle.cob_meaning.specs.Names.{fault_at}

-- a PERFORM: the number of the paragraph in which it is, and the names of its range as they are
-- written
pub record Performing : Type 0 where
  pub from : ℕ
  pub first : Name
  pub last : Option Name

-- a GO: the number of the paragraph in which it is, and its target
pub record Going : Type 0 where
  pub from : ℕ
  pub target : Name

-- the PERFORMs and the GOs of a paragraph with a number
module _ (k : ℕ) where
  -- PERFORM
  abbrev pub plain_performs : Plain → List Performing
  plain_performs (performs first last often) = record { from = k; first = first; last = last } ∷ []
  plain_performs _ = []

  abbrev mutual
    -- the PERFORMs in a statement
    pub performs_in : Tree → List Performing
    performs_in (plain statement) = plain_performs statement
    performs_in (branches position condition one other) = all_performs one ++ all_performs other
    performs_in (receives cd segment into no_data) = all_performs no_data

    -- the PERFORMs in statements
    pub all_performs : Block → List Performing
    all_performs none = []
    all_performs (lead statement others) = performs_in statement ++ all_performs others

  -- GO
  abbrev pub plain_goes : Plain → List Going
  plain_goes (goes target) = record { from = k; target = target } ∷ []
  plain_goes _ = []

  abbrev mutual
    -- the GOs in a statement
    pub goes_in : Tree → List Going
    goes_in (plain statement) = plain_goes statement
    goes_in (branches position condition one other) = all_goes one ++ all_goes other
    goes_in (receives cd segment into no_data) = all_goes no_data

    -- the GOs in statements
    pub all_goes : Block → List Going
    all_goes none = []
    all_goes (lead statement others) = goes_in statement ++ all_goes others

-- the PERFORMs of paragraphs, of which the first has this number
abbrev pub performs_from : ℕ → List ParagraphTree → List Performing
performs_from k [] = []
performs_from k (paragraph ∷ others) =
    flat_map (all_performs k) paragraph.sentences ++ performs_from (suc k) others

-- the GOs of paragraphs, of which the first has this number
abbrev pub goes_from : ℕ → List ParagraphTree → List Going
goes_from k [] = []
goes_from k (paragraph ∷ others) =
    flat_map (all_goes k) paragraph.sentences ++ goes_from (suc k) others

-- a range, by the numbers of its first and last paragraph
pub record Range : Type 0 where
  pub first : ℕ
  pub last : ℕ

-- a range has the paragraphs from its first to its last; one that ends before it begins has none
pub record IsIn (range : Range) (k : ℕ) : Type 0 where
  pub from_first : range.first ≤ k
  pub to_last : k ≤ range.last

module _ (text : List ParagraphTree) where
  -- the range of a PERFORM
  abbrev pub range_of : Performing → Range
  range_of p = record {
    first = paragraph_number text p.first;
    last = paragraph_number text (last_of p.first p.last);
  }

  -- a PERFORM of the text
  abbrev pub IsPerformed : Performing → Type 0
  IsPerformed p = Contains (performs_from 0 text) p

  -- A range reaches the paragraphs in it, and those in each range that a paragraph that it reaches
  -- performs.
  pub data Reaches (range : Range) : ℕ → Type 0 where
    directly : {k : ℕ} → IsIn range k → Reaches range k
    through : {k : ℕ} (p : Performing) → IsPerformed p → Reaches range p.from → IsIn (range_of p) k
        → Reaches range k

  -- The faults of ranges. A PERFORM whose THRU ends before it begins has no range, and so no other
  -- fault.
  pub data IsRangesFault : SourceFault → Type 0 where
    -- a THRU that ends before it begins, at its end
    backward : (p : Performing) → IsPerformed p → (range_of p).last < (range_of p).first
        → IsRangesFault (fault_at (last_of p.first p.last).position faults.LeavesRange)
    -- a GO out of a range that its paragraph is in, at its target
    leaves : (going : Going) (p : Performing) → Contains (goes_from 0 text) going → IsPerformed p
        → IsIn (range_of p) going.from
        → (IsIn (range_of p) (paragraph_number text going.target) → ⊥)
        → IsRangesFault (fault_at going.target.position faults.LeavesRange)
    -- a PERFORM whose range reaches its own paragraph, at the name of its first
    circles : (p : Performing) → IsPerformed p → Reaches (range_of p) p.from
        → IsRangesFault (fault_at p.first.position faults.PerformsItself)

-- the first of some faults, by place and then by kind
pub record IsFirstOf (IsFault : SourceFault → Type 0) (fault : SourceFault) : Type 0 where
  pub is_fault : IsFault fault
  pub none_before : (other : SourceFault) → IsFault other → is_before other fault ≡ false
