-- What the text of a program is once names and kinds were checked: each name stands for what its
-- statement asks for, and numbers and literals have their sizes.
use Rattle.std.specs.Prelude.{◌≡◌, ◌≤◌, ◌<◌, ℕ, IsTrue, List, length, Option, Some, None, IfSome}
use Rattle.std.specs.List.{AllByRecursion}
use Rattle.std.specs.Str.{all_ascii_digits}
use Rattle.com_text.specs.declared.decimal.TheConstants.{MAX_DIGITS}
use Rattle.com_text.specs.Digits.{number}
use Rattle.com_text.specs.Text.{IsText}
use Rattle.com_msg.specs.declared.sending.TheConstants.{MAX_LINES}
use Rattle.com_events.specs.declared.call.TheConstants.{MAX_KEY_LENGTH}
use Rattle.cob_forms.specs.declared.written.Name.{Name}
use Rattle.cob_data.specs.declared.tree.ItemPlace.{ItemPlace}
use Rattle.cob_data.specs.declared.tree.ItemSort.TheVariants.{Numeric}
use Rattle.cob_data.specs.Layout.{data_at, input_cd, output_cd}
use Rattle.cob_proc.specs.declared.tree.Addend.{Addend}
use Rattle.cob_proc.specs.declared.tree.Addend.TheVariants as addends
use Rattle.cob_proc.specs.declared.tree.Condition.{Condition}
use Rattle.cob_proc.specs.declared.tree.Ending.{Ending}
use Rattle.cob_proc.specs.declared.tree.Identifier.{Identifier}
use Rattle.cob_proc.specs.declared.tree.Indicator.{Indicator}
use Rattle.cob_proc.specs.declared.tree.Indicator.TheVariants as indicators
use Rattle.cob_proc.specs.declared.tree.Key.{Key}
use Rattle.cob_proc.specs.declared.tree.Key.TheVariants as keys
use Rattle.cob_proc.specs.declared.tree.Lines.{Lines}
use Rattle.cob_proc.specs.declared.tree.Lines.TheVariants as lines
use Rattle.cob_proc.specs.declared.tree.Operand.{Operand}
use Rattle.cob_proc.specs.declared.tree.Operand.TheVariants as operands
use Rattle.cob_proc.specs.declared.tree.Repetition.{Repetition}
use Rattle.cob_proc.specs.declared.tree.Repetition.TheVariants as repetitions
use Rattle.cob_proc.specs.declared.tree.Simple.{Simple}
use Rattle.cob_proc.specs.declared.tree.Simple.TheVariants as simples
use Rattle.cob_proc.specs.declared.tree.Subscript.{Subscript}
use Rattle.cob_proc.specs.declared.tree.Subscript.TheVariants as subscripts
use Rattle.cob_proc.specs.Trees.{Plain, moves, adds, subtracts, performs, goes, exits, stops, sends, switches_input, switches_output, accepts, Tree, plain, branches, receives, Block, none, lead, ParagraphTree}
use Rattle.cob_meaning.specs.Layouts.{Layout, referent}
use Rattle.cob_meaning.specs.Meaning.{paragraph_number}

-- a number that is written: 1 to 18 digits
pub record IsNumeral (digits : List ℕ) : Type 0 where
  pub some : 1 ≤ length digits
  pub few : length digits ≤ MAX_DIGITS
  pub are_digits : IsTrue (all_ascii_digits digits)

-- a literal: 1 to 120 characters of a text
pub record IsQuotation (characters : List ℕ) : Type 0 where
  pub some : 1 ≤ length characters
  pub few : length characters ≤ 120
  pub text : IsText characters

module _ (layout : Layout) where
  -- a subscript of a table: a number of one of its occurrences, or a numeric item without a
  -- subscript
  abbrev pub IsCheckedSubscript : ℕ → Subscript → Type 0
  IsCheckedSubscript occurs (subscripts.Number position n) =
      IsNumeral n.digits × (1 ≤ number n.digits) × (number n.digits ≤ occurs)
  IsCheckedSubscript occurs (subscripts.Item position name) =
      (item : ItemPlace) × (referent layout name ≡ Some (data_at item None)) × (item.sort ≡ Numeric)

  -- a subscript is written exactly with a name of a table
  abbrev pub IsSubscripted : Option ℕ → Option Subscript → Type 0
  IsSubscripted None None = Unit {0}
  IsSubscripted (Some occurs) (Some subscript) = IsCheckedSubscript occurs subscript
  IsSubscripted _ _ = ⊥

  -- an identifier of an item of which this holds
  pub record IsCheckedItem (IsRight : ItemPlace → Type 0) (identifier : Identifier) : Type 0 where
    pub item : ItemPlace
    pub occurs : Option ℕ
    pub stands_for : referent layout identifier.name ≡ Some (data_at item occurs)
    pub is_right : IsRight item
    pub subscripted : IsSubscripted occurs identifier.subscript

  -- an identifier of any item
  abbrev pub IsCheckedIdentifier : Identifier → Type 0
  IsCheckedIdentifier = IsCheckedItem (λ item. Unit {0})

  -- an identifier of a numeric item
  abbrev pub IsCheckedNumber : Identifier → Type 0
  IsCheckedNumber = IsCheckedItem (λ item. item.sort ≡ Numeric)

  -- what is moved or compared
  abbrev pub IsCheckedOperand : Operand → Type 0
  IsCheckedOperand (operands.Item identifier) = IsCheckedIdentifier identifier
  IsCheckedOperand (operands.Literal literal) = IsQuotation literal.characters
  IsCheckedOperand (operands.Number n) = IsNumeral n.digits
  IsCheckedOperand (operands.Spaces position) = Unit {0}
  IsCheckedOperand (operands.Zeros position) = Unit {0}

  -- what is added, subtracted or counted
  abbrev pub IsCheckedAddend : Addend → Type 0
  IsCheckedAddend (addends.Item identifier) = IsCheckedNumber identifier
  IsCheckedAddend (addends.Number n) = IsNumeral n.digits

  -- a simple condition
  abbrev pub IsCheckedSimple : Simple → Type 0
  IsCheckedSimple (simples.Compares left denied relation right) =
      IsCheckedOperand left × IsCheckedOperand right
  IsCheckedSimple (simples.Numeric identifier denied) = IsCheckedIdentifier identifier

  -- a condition
  abbrev pub IsCheckedCondition : Condition → Type 0
  IsCheckedCondition condition = AllByRecursion IsCheckedSimple condition.parts

  -- the name of an input CD
  abbrev pub IsInputCd : Name → Type 0
  IsInputCd name = (area : ℕ) × (referent layout name ≡ Some (input_cd area))

  -- the name of an output CD
  abbrev pub IsOutputCd : Name → Type 0
  IsOutputCd name =
      (area : ℕ) × (occurrences : ℕ) × (referent layout name ≡ Some (output_cd area occurrences))

  -- a key: an item or a literal of 1 to 10 characters
  abbrev pub IsCheckedKey : Key → Type 0
  IsCheckedKey (keys.Item identifier) =
      IsCheckedItem (λ item. (1 ≤ item.length) × (item.length ≤ MAX_KEY_LENGTH)) identifier
  IsCheckedKey (keys.Literal literal) =
      IsQuotation literal.characters × (length literal.characters ≤ MAX_KEY_LENGTH)

  -- an indicator: an item of one character, or a word
  abbrev pub IsCheckedIndicator : Indicator → Type 0
  IsCheckedIndicator (indicators.Item identifier) =
      IsCheckedItem (λ item. item.length ≡ 1) identifier
  IsCheckedIndicator indicators.Esi = Unit {0}
  IsCheckedIndicator indicators.Emi = Unit {0}
  IsCheckedIndicator indicators.Egi = Unit {0}

  -- lines: a numeric item, a number of at most 99, or PAGE
  abbrev pub AreCheckedLines : Lines → Type 0
  AreCheckedLines (lines.Count (addends.Item identifier)) = IsCheckedNumber identifier
  AreCheckedLines (lines.Count (addends.Number n)) =
      IsNumeral n.digits × (number n.digits ≤ MAX_LINES)
  AreCheckedLines lines.Page = Unit {0}

  -- the end of a SEND
  pub record IsCheckedEnding (ending : Ending) : Type 0 where
    pub indicator : IsCheckedIndicator ending.indicator
    pub advancing : IfSome ending.advancing (λ advancing. AreCheckedLines advancing.lines)

  -- how often a PERFORM goes through its range
  abbrev pub IsCheckedRepetition : Repetition → Type 0
  IsCheckedRepetition repetitions.Once = Unit {0}
  IsCheckedRepetition (repetitions.Times counted) = IsCheckedAddend counted
  IsCheckedRepetition (repetitions.Until condition) = IsCheckedCondition condition

  module _ (text : List ParagraphTree) where
    -- the name of a paragraph
    abbrev pub IsParagraphName : Name → Type 0
    IsParagraphName name = paragraph_number text name < length text

    -- a statement in which no others are
    abbrev pub IsCheckedPlain : Plain → Type 0
    IsCheckedPlain (moves source targets) =
        IsCheckedOperand source × AllByRecursion IsCheckedIdentifier targets
    IsCheckedPlain (adds addend target) = IsCheckedAddend addend × IsCheckedNumber target
    IsCheckedPlain (subtracts addend target) = IsCheckedAddend addend × IsCheckedNumber target
    IsCheckedPlain (performs first last often) =
        IsParagraphName first × IfSome last IsParagraphName × IsCheckedRepetition often
    IsCheckedPlain (goes target) = IsParagraphName target
    IsCheckedPlain exits = Unit {0}
    IsCheckedPlain stops = Unit {0}
    IsCheckedPlain (sends cd from ending) =
        IsOutputCd cd × IfSome from IsCheckedIdentifier × IfSome ending IsCheckedEnding
    IsCheckedPlain (switches_input on terminal cd key) = IsInputCd cd × IsCheckedKey key
    IsCheckedPlain (switches_output on cd key) = IsOutputCd cd × IsCheckedKey key
    IsCheckedPlain (accepts cd) = IsInputCd cd

    abbrev mutual
      -- a statement
      pub IsCheckedStatement : Tree → Type 0
      IsCheckedStatement (plain statement) = IsCheckedPlain statement
      IsCheckedStatement (branches position condition one other) =
          IsCheckedCondition condition × AreChecked one × AreChecked other
      IsCheckedStatement (receives cd segment into no_data) =
          IsInputCd cd × IsCheckedIdentifier into × AreChecked no_data

      -- statements one after another
      pub AreChecked : Block → Type 0
      AreChecked none = Unit {0}
      AreChecked (lead statement others) = IsCheckedStatement statement × AreChecked others

    -- paragraphs of the text
    abbrev pub AreCheckedParagraphs : List ParagraphTree → Type 0
    AreCheckedParagraphs =
        AllByRecursion (λ paragraph. AllByRecursion AreChecked paragraph.sentences)

  -- the whole text
  abbrev pub IsCheckedText : List ParagraphTree → Type 0
  IsCheckedText text = AreCheckedParagraphs text text
