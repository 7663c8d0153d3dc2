-- What the code at a place does, before it comes to the next place.
use Rattle.std.specs.Prelude.{◌≡◌, ℕ, ◌<◌, ◌≤◌, List, [], ◌∷◌, Option, Some, slice_get, slice_index}
use Rattle.cob_proc.specs.declared.tree.Condition.{Condition}
use Rattle.cob_proc.specs.declared.tree.Repetition.{Repetition}
use Rattle.cob_proc.specs.declared.tree.Repetition.TheVariants as repetition
use Rattle.cob_proc.specs.Trees.{Plain, moves, adds, subtracts, performs, goes, exits, stops, sends, switches_input, switches_output, accepts, Tree, plain, branches, receives, Block, none, lead, ParagraphTree}
use Rattle.cob_meaning.specs.Layouts.{Layout}
use Rattle.cob_meaning.specs.Storage.{Storage}
use Rattle.cob_meaning.specs.Moves.{add, addend_number, move, subtract}
use Rattle.cob_meaning.specs.Conditions.{holds}
use Rattle.cob_meaning.specs.Verbs.{Request, accept, receive, send, switch_input, switch_output}
use Rattle.cob_meaning.specs.Meaning.{are_written, last_of, paragraph_number}
use Rattle.cob_flat.specs.declared.operands.Test.{Test}
use Rattle.cob_flat.specs.declared.code.Action.{Action}
use Rattle.cob_flat.specs.declared.code.Instruction.{Instruction}
use Rattle.cob_flat.specs.declared.code.Instruction.TheVariants as instruction
use Rattle.cob_flat.specs.declared.code.Turns.{Turns}
use Rattle.cob_flat.specs.declared.code.Turns.TheVariants as turns
use Rattle.cob_flat.specs.declared.code.Verb.{Verb}
use Rattle.cob_flat.specs.Effects.{amount_by, effect, holds_by, request_by}

-- a test holds exactly where a condition does
abbrev pub IsTestOf : Layout → Condition → Test → Type 0
IsTestOf layout condition test = (storage : Storage) → holds_by test storage ≡ holds layout condition storage

-- a range is performed as often
abbrev pub AreTurnsOf : Layout → Repetition → Turns → Type 0
AreTurnsOf layout repetition.Once turns.Once = Unit {0}
AreTurnsOf layout (repetition.Times counted) (turns.Times number) = (storage : Storage) → amount_by number storage ≡ addend_number layout counted storage
AreTurnsOf layout (repetition.Until condition) (turns.Until test) = IsTestOf layout condition test
AreTurnsOf layout _ _ = ⊥

module _ (layout : Layout) (text : List ParagraphTree) (code : List Instruction) where
  -- an instruction that changes the storage so
  abbrev pub Changes : (Storage → Option Storage) → ℕ → ℕ → Type 0
  Changes change place next =
      (action : Action) × (slice_get code place ≡ Some (instruction.Act action next)) × ((storage : Storage) → effect action storage ≡ change storage)

  -- an instruction that makes this request
  abbrev pub Asks : (Storage → Option Request) → ℕ → ℕ → ℕ → Type 0
  Asks request no_data place next =
      (verb : Verb) × (slice_get code place ≡ Some (instruction.Ask verb no_data next)) × ((storage : Storage) → request_by verb storage ≡ request storage)

  -- the code does a statement in which no others are
  abbrev pub DoesPlain : Plain → ℕ → ℕ → Type 0
  DoesPlain (moves source targets) place next = Changes (move layout source targets) place next
  DoesPlain (adds addend target) place next = Changes (add layout addend target) place next
  DoesPlain (subtracts addend target) place next = Changes (subtract layout addend target) place next
  DoesPlain (performs first last often) place next =
      (how : Turns) × (slice_get code place ≡ Some (instruction.Perform (paragraph_number text first) (paragraph_number text (last_of first last)) how next)) × AreTurnsOf layout often how
  DoesPlain (goes target) place next = slice_get code place ≡ Some (instruction.Go (paragraph_number text target))
  DoesPlain exits place next = Changes Some place next
  DoesPlain stops place next = slice_get code place ≡ Some instruction.Halt
  DoesPlain (sends cd from ending) place next = Asks (send layout cd from ending) next place next
  DoesPlain (switches_input on terminal cd key) place next = Asks (switch_input layout on terminal cd key) next place next
  DoesPlain (switches_output on cd key) place next = Asks (switch_output layout on cd key) next place next
  DoesPlain (accepts cd) place next = Asks (accept layout cd) next place next

  abbrev mutual
    -- the code does a statement
    pub Does : Tree → ℕ → ℕ → Type 0
    Does (plain statement) place next = DoesPlain statement place next
    Does (branches position condition one other) place next =
        (at_one : ℕ) × (at_other : ℕ) × (test : Test) × (slice_get code place ≡ Some (instruction.Choose test at_one at_other)) × IsTestOf layout condition test × DoesAll one at_one next × DoesAll other at_other next
    Does (receives cd segment into no_data) place next =
        (at_none : ℕ) × Asks (receive layout cd segment into (are_written no_data)) at_none place next × DoesAll no_data at_none next

    -- the code does statements one after another
    pub DoesAll : Block → ℕ → ℕ → Type 0
    DoesAll none place next = place ≡ next
    DoesAll (lead statement others) place next = (between : ℕ) × Does statement place between × DoesAll others between next

  -- the code does sentences one after another
  abbrev pub DoesSentences : List Block → ℕ → ℕ → Type 0
  DoesSentences [] place next = place ≡ next
  DoesSentences (sentence ∷ others) place next = (between : ℕ) × DoesAll sentence place between × DoesSentences others between next

  -- the code of a paragraph does its sentences, and then the paragraph ends
  abbrev pub DoesParagraph : ParagraphTree → ℕ → Type 0
  DoesParagraph paragraph place = (end : ℕ) × DoesSentences paragraph.sentences place end × (slice_get code end ≡ Some instruction.End)
