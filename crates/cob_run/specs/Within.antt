-- Which operands of flat code are within areas of these lengths.
use Rattle.std.specs.Prelude.{◌≡◌, ℕ, ◌+◌, ◌<◌, ◌≤◌, ◌^◌, List, map, length, Option, Some, None, IfSome, slice_index}
use Rattle.std.specs.List.{AllByRecursion}
use Rattle.com_text.specs.declared.decimal.TheConstants.{MAX_DIGITS}
use Rattle.com_msg.specs.declared.sending.TheConstants.{MAX_ITEM_LENGTH}
use Rattle.com_cd.specs.Designation.{names_length}
use Rattle.cob_data.specs.declared.tree.ItemPlace.{ItemPlace}
use Rattle.cob_data.specs.declared.tree.ItemSort.TheVariants.{Numeric}
use Rattle.cob_meaning.specs.Layouts.{occurrence}
use Rattle.cob_meaning.specs.Storage.{Storage}
use Rattle.cob_flat.specs.declared.operands.Index.{Index}
use Rattle.cob_flat.specs.declared.operands.Index.TheVariants as index
use Rattle.cob_flat.specs.declared.operands.Spot.{Spot}
use Rattle.cob_flat.specs.declared.operands.Spot.TheVariants as spot
use Rattle.cob_flat.specs.declared.operands.Source.{Source}
use Rattle.cob_flat.specs.declared.operands.Source.TheVariants as source
use Rattle.cob_flat.specs.declared.operands.Amount.{Amount}
use Rattle.cob_flat.specs.declared.operands.Amount.TheVariants as amount
use Rattle.cob_flat.specs.declared.operands.SimpleTest.{SimpleTest}
use Rattle.cob_flat.specs.declared.operands.SimpleTest.TheVariants as simple
use Rattle.cob_flat.specs.declared.operands.Test.{Test}
use Rattle.cob_flat.specs.declared.operands.KeySource.{KeySource}
use Rattle.cob_flat.specs.declared.operands.KeySource.TheVariants as key
use Rattle.cob_flat.specs.declared.operands.EndSource.{EndSource}
use Rattle.cob_flat.specs.declared.operands.EndSource.TheVariants as end
use Rattle.cob_flat.specs.declared.operands.LinesSource.{LinesSource}
use Rattle.cob_flat.specs.declared.operands.LinesSource.TheVariants as lines
use Rattle.cob_flat.specs.declared.operands.SendEnd.{SendEnd}
use Rattle.cob_flat.specs.declared.code.Action.{Action}
use Rattle.cob_flat.specs.declared.code.Action.TheVariants as action
use Rattle.cob_flat.specs.declared.code.Turns.{Turns}
use Rattle.cob_flat.specs.declared.code.Turns.TheVariants as turns
use Rattle.cob_flat.specs.declared.code.Verb.{Verb}
use Rattle.cob_flat.specs.declared.code.Verb.TheVariants as verb
use Rattle.cob_flat.specs.declared.code.Instruction.{Instruction}
use Rattle.cob_flat.specs.declared.code.Instruction.TheVariants as instruction

-- the length of each area
abbrev pub sizes : Storage → List ℕ
sizes storage = map length storage

-- an item of at most 18 characters, from which a number can be read
abbrev pub HasDigits : ItemPlace → Type 0
HasDigits item = item.length ≤ MAX_DIGITS

-- this holds of each item that a spot may be
abbrev pub IsEachItem : (ItemPlace → Type 0) → Spot → Type 0
IsEachItem IsRight (spot.Fixed item) = IsRight item
IsEachItem IsRight (spot.Occurrence first occurs at) =
    (n : ℕ) → IfSome (occurrence occurs first n) IsRight

module _ (sizes : List ℕ) where
  -- an item of at most 2,000 characters, a numeric one of at most 18, within its area
  pub record IsItemIn (item : ItemPlace) : Type 0 where
    pub area : item.area < length sizes
    pub within : item.start + item.length ≤ slice_index sizes item.area
    pub reach : item.start < 2 ^ 32
    pub few : item.length ≤ MAX_ITEM_LENGTH
    pub few_digits : item.sort ≡ Numeric → HasDigits item

  -- the item of a subscript is within its area, and a number can be read from it
  abbrev pub IsIndexIn : Index → Type 0
  IsIndexIn (index.Item item) = IsItemIn item × HasDigits item
  IsIndexIn (index.Number n) = Unit {0}

  -- the subscript of a spot is within its area
  abbrev pub IsSubscriptIn : Spot → Type 0
  IsSubscriptIn (spot.Fixed item) = Unit {0}
  IsSubscriptIn (spot.Occurrence first occurs at) = IsIndexIn at

  -- a spot: each item that it may be is within its area
  abbrev pub IsSpotIn : Spot → Type 0
  IsSpotIn where_ = IsSubscriptIn where_ × IsEachItem IsItemIn where_

  -- a spot that a number can be read from
  abbrev pub IsNumberSpotIn : Spot → Type 0
  IsNumberSpotIn where_ = IsSpotIn where_ × IsEachItem HasDigits where_

  -- what is moved or compared: a number has at most 18 digits
  abbrev pub IsSourceIn : Source → Type 0
  IsSourceIn (source.Item where_) = IsSpotIn where_
  IsSourceIn (source.Literal characters) = Unit {0}
  IsSourceIn (source.Number digits) = length digits ≤ MAX_DIGITS
  IsSourceIn source.Spaces = Unit {0}
  IsSourceIn source.Zeros = Unit {0}

  -- what is added, subtracted or counted
  abbrev pub IsAmountIn : Amount → Type 0
  IsAmountIn (amount.Item where_) = IsNumberSpotIn where_
  IsAmountIn (amount.Number n) = n < 10 ^ 18

  -- a simple condition
  abbrev pub IsPartIn : SimpleTest → Type 0
  IsPartIn (simple.Compares left denied relation right) = IsSourceIn left × IsSourceIn right
  IsPartIn (simple.Numeric where_ denied) = IsSpotIn where_

  -- a condition
  abbrev pub IsTestIn : Test → Type 0
  IsTestIn test = AllByRecursion IsPartIn test.parts

  -- a statement that only changes the storage
  abbrev pub IsActionIn : Action → Type 0
  IsActionIn (action.Move from targets) = IsSourceIn from × AllByRecursion IsSpotIn targets
  IsActionIn (action.Add other target) = IsAmountIn other × IsNumberSpotIn target
  IsActionIn (action.Subtract other target) = IsAmountIn other × IsNumberSpotIn target
  IsActionIn action.Exit = Unit {0}

  -- how often a range is performed
  abbrev pub AreTurnsIn : Turns → Type 0
  AreTurnsIn turns.Once = Unit {0}
  AreTurnsIn (turns.Times number) = IsAmountIn number
  AreTurnsIn (turns.Until test) = IsTestIn test

  -- what a password is taken from
  abbrev pub IsKeyIn : KeySource → Type 0
  IsKeyIn (key.Item where_) = IsSpotIn where_
  IsKeyIn (key.Literal characters) = Unit {0}

  -- what an indicator is taken from
  abbrev pub IsIndicatorIn : EndSource → Type 0
  IsIndicatorIn (end.Item where_) = IsSpotIn where_
  IsIndicatorIn end.Esi = Unit {0}
  IsIndicatorIn end.Emi = Unit {0}
  IsIndicatorIn end.Egi = Unit {0}

  -- how far is advanced
  abbrev pub AreLinesIn : LinesSource → Type 0
  AreLinesIn (lines.Count counted) = IsAmountIn counted
  AreLinesIn lines.Page = Unit {0}

  -- what a SEND ends
  pub record IsEndIn (ending : SendEnd) : Type 0 where
    pub end : IsIndicatorIn ending.end
    pub advancement : IfSome ending.advancement (λ advancement. AreLinesIn advancement.lines)

  -- there is an area of 87 characters
  pub record IsInputAreaIn (area : ℕ) : Type 0 where
    pub below : area < length sizes
    pub long : slice_index sizes area ≡ 87

  -- there is an area that has room for the names of START
  pub record IsInitialIn (area : ℕ) : Type 0 where
    pub below : area < length sizes
    pub long : names_length ≤ slice_index sizes area

  -- a verb
  abbrev pub IsVerbIn : Verb → Type 0
  IsVerbIn (verb.Receive area segment into no_data) = IsInputAreaIn area × IsSpotIn into
  IsVerbIn (verb.Send area from ending) =
      (area < length sizes) × IfSome from IsSpotIn × IfSome ending IsEndIn
  IsVerbIn (verb.SwitchInput on terminal area password) = IsInputAreaIn area × IsKeyIn password
  IsVerbIn (verb.SwitchOutput on area password) = (area < length sizes) × IsKeyIn password
  IsVerbIn (verb.Accept area) = IsInputAreaIn area

  -- an instruction
  abbrev pub IsInstructionIn : Instruction → Type 0
  IsInstructionIn (instruction.Act done next) = IsActionIn done
  IsInstructionIn (instruction.Choose test one other) = IsTestIn test
  IsInstructionIn (instruction.Perform first last how next) = AreTurnsIn how
  IsInstructionIn (instruction.Ask asked no_data next) = IsVerbIn asked
  IsInstructionIn (instruction.Go paragraph) = Unit {0}
  IsInstructionIn instruction.Halt = Unit {0}
  IsInstructionIn instruction.End = Unit {0}

  -- all operands of code are within areas of these lengths
  abbrev pub IsWithin : List Instruction → Type 0
  IsWithin code = AllByRecursion IsInstructionIn code
