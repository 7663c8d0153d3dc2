-- What actions, tests and verbs of flat code mean. None is a stop for DATA, as in the definitions of meaning.
use Rattle.std.specs.Prelude.{ℕ, ◌+◌, ◌-◌, Bool, List, [], ◌∷◌, Option, Some, None, if◌then◌else◌, option_map}
use Rattle.std.specs.Str.{all_ascii_digits}
use Rattle.com_text.specs.Digits.{in_digits}
use Rattle.com_msg.specs.declared.rest.Kind.TheVariants as kind
use Rattle.com_msg.specs.declared.sending.Advance.{Advance}
use Rattle.com_msg.specs.declared.sending.Advance.TheVariants.{Before, After, BeforePage, AfterPage}
use Rattle.com_msg.specs.declared.sending.Part.{Part}
use Rattle.com_msg.specs.declared.sending.Part.TheVariants as part
use Rattle.com_events.specs.declared.call.Call.TheVariants as call
use Rattle.cob_data.specs.declared.tree.ItemPlace.{ItemPlace}
use Rattle.cob_meaning.specs.Layouts.{◌>>=◌, occurrence}
use Rattle.cob_meaning.specs.Storage.{Storage, area_in, held_by, number_held, with_prefix}
use Rattle.cob_meaning.specs.Moves.{Content, a_number, a_text, all_spaces, all_zeros, content_of, moved}
use Rattle.cob_meaning.specs.Conditions.{compared, is_relation, together, with_not}
use Rattle.cob_meaning.specs.Verbs.{Request, indicated, some_lines}
use Rattle.cob_flat.specs.declared.operands.Index.{Index}
use Rattle.cob_flat.specs.declared.operands.Index.TheVariants as index
use Rattle.cob_flat.specs.declared.operands.Spot.{Spot}
use Rattle.cob_flat.specs.declared.operands.Spot.TheVariants as spot
use Rattle.cob_flat.specs.declared.operands.Source.{Source}
use Rattle.cob_flat.specs.declared.operands.Source.TheVariants as source
use Rattle.cob_flat.specs.declared.operands.Amount.{Amount}
use Rattle.cob_flat.specs.declared.operands.Amount.TheVariants as amount
use Rattle.cob_flat.specs.declared.operands.SimpleTest.{SimpleTest}
use Rattle.cob_flat.specs.declared.operands.SimpleTest.TheVariants as simple
use Rattle.cob_flat.specs.declared.operands.Test.{Test}
use Rattle.cob_flat.specs.declared.operands.KeySource.{KeySource}
use Rattle.cob_flat.specs.declared.operands.KeySource.TheVariants as key
use Rattle.cob_flat.specs.declared.operands.EndSource.{EndSource}
use Rattle.cob_flat.specs.declared.operands.EndSource.TheVariants as end
use Rattle.cob_flat.specs.declared.operands.LinesSource.{LinesSource}
use Rattle.cob_flat.specs.declared.operands.LinesSource.TheVariants as lines
use Rattle.cob_flat.specs.declared.operands.Advancement.{Advancement}
use Rattle.cob_flat.specs.declared.operands.SendEnd.{SendEnd}
use Rattle.cob_flat.specs.declared.code.Action.{Action}
use Rattle.cob_flat.specs.declared.code.Action.TheVariants as action
use Rattle.cob_flat.specs.declared.code.Verb.{Verb}
use Rattle.cob_flat.specs.declared.code.Verb.TheVariants as verb

-- the number of an occurrence
abbrev pub index_number : Index → Storage → Option ℕ
index_number (index.Item item) storage = number_held item storage
index_number (index.Number n) storage = Some n

-- the item of a spot
abbrev pub item_by : Spot → Storage → Option ItemPlace
item_by (spot.Fixed item) storage = Some item
item_by (spot.Occurrence first occurs at) storage = index_number at storage >>= occurrence occurs first

-- what is moved or compared
abbrev pub content_by : Source → Storage → Option Content
content_by (source.Item where_) storage = do
  item ← item_by where_ storage
  Some (content_of item.sort (held_by item storage))
content_by (source.Literal characters) storage = Some (a_text characters)
content_by (source.Number digits) storage = Some (a_number digits)
content_by source.Spaces storage = Some all_spaces
content_by source.Zeros storage = Some all_zeros

-- the number of an amount
abbrev pub amount_by : Amount → Storage → Option ℕ
amount_by (amount.Item where_) storage = do
  item ← item_by where_ storage
  number_held item storage
amount_by (amount.Number n) storage = Some n

-- the storage after a MOVE of this to the targets, one after another
abbrev pub filled_by : Content → List Spot → Storage → Option Storage
filled_by content [] storage = Some storage
filled_by content (target ∷ targets) storage = do
  item ← item_by target storage
  characters ← moved content item.sort item.length
  filled_by content targets (with_prefix item characters storage)

-- the target holds the low-order digits of what its number and another give together
abbrev pub combined_by : (ℕ → ℕ → ℕ) → Amount → Spot → Storage → Option Storage
combined_by join other target storage = do
  n ← amount_by other storage
  item ← item_by target storage
  m ← number_held item storage
  Some (with_prefix item (in_digits (join m n) item.length) storage)

-- the storage after an action
abbrev pub effect : Action → Storage → Option Storage
effect (action.Move from targets) storage = do
  content ← content_by from storage
  filled_by content targets storage
effect (action.Add other target) storage = combined_by (λ m n. m + n) other target storage
effect (action.Subtract other target) storage = combined_by (λ m n. (m - n) + (n - m)) other target storage
effect action.Exit storage = Some storage

-- whether a simple condition holds
abbrev pub part_by : SimpleTest → Storage → Option Bool
part_by (simple.Compares left denied relation right) storage = do
  one ← content_by left storage
  other ← content_by right storage
  found ← compared one other
  Some (with_not denied (is_relation found relation))
part_by (simple.Numeric where_ denied) storage = do
  item ← item_by where_ storage
  Some (with_not denied (all_ascii_digits (held_by item storage)))

-- whether each part holds
abbrev pub parts_by : List SimpleTest → Storage → Option (List Bool)
parts_by [] storage = Some []
parts_by (part ∷ parts) storage = do
  one ← part_by part storage
  others ← parts_by parts storage
  Some (one ∷ others)

-- whether a condition holds
abbrev pub holds_by : Test → Storage → Option Bool
holds_by test storage = do
  parts ← parts_by test.parts storage
  Some (together test.joint parts)

-- the characters that are sent
abbrev pub text_by : Option Spot → Storage → Option (Option (List ℕ))
text_by None storage = Some None
text_by (Some where_) storage = do
  item ← item_by where_ storage
  Some (Some (held_by item storage))

-- how a text is advanced by lines or to a page
abbrev pub advanced_by : Bool → LinesSource → Storage → Option Advance
advanced_by after (lines.Count counted) storage = do
  n ← amount_by counted storage
  m ← some_lines n
  Some (if after then After m else Before m)
advanced_by after lines.Page storage = Some (if after then AfterPage else BeforePage)

-- how a text is advanced
abbrev pub advance_with : Option Advancement → Storage → Option Advance
advance_with None storage = Some (After 1)
advance_with (Some advancement) storage = advanced_by advancement.after advancement.lines storage

-- what a SEND ends; ADVANCING is read only where a segment ends
abbrev pub ends_by : Option (Advance → Part) → Option Advancement → Storage → Option Part
ends_by None advancement storage = Some part.Portion
ends_by (Some ended) advancement storage = option_map ended (advance_with advancement storage)

-- what a SEND ends with this indicator
abbrev pub ends_with : EndSource → Option Advancement → Storage → Option Part
ends_with (end.Item where_) advancement storage = do
  item ← item_by where_ storage
  ends_by (indicated (held_by item storage)) advancement storage
ends_with end.Esi advancement storage = ends_by (Some part.Esi) advancement storage
ends_with end.Emi advancement storage = ends_by (Some part.Emi) advancement storage
ends_with end.Egi advancement storage = ends_by (Some part.Egi) advancement storage

-- what a SEND ends
abbrev pub ended_by : Option SendEnd → Storage → Option Part
ended_by None storage = Some part.Portion
ended_by (Some ending) storage = ends_with ending.end ending.advancement storage

-- the characters of a key
abbrev pub key_by : KeySource → Storage → Option (List ℕ)
key_by (key.Item where_) storage = do
  item ← item_by where_ storage
  Some (held_by item storage)
key_by (key.Literal characters) storage = Some characters

-- the call that a verb makes
abbrev pub request_by : Verb → Storage → Option Request
request_by (verb.Receive area segment into no_data) storage = do
  item ← item_by into storage
  let received = if segment then kind.Segment else kind.Message
  Some (record { call = call.Receive (area_in storage area) received item.length no_data; area = area; into = Some item })
request_by (verb.Send area from ending) storage = do
  text ← text_by from storage
  ended ← ended_by ending storage
  Some (record { call = call.Send (area_in storage area) ended text; area = area; into = None })
request_by (verb.SwitchInput on terminal area password) storage = do
  characters ← key_by password storage
  Some (record { call = call.SwitchInput on terminal (area_in storage area) characters; area = area; into = None })
request_by (verb.SwitchOutput on area password) storage = do
  characters ← key_by password storage
  Some (record { call = call.SwitchOutput on (area_in storage area) characters; area = area; into = None })
request_by (verb.Accept area) storage =
    Some (record { call = call.Count (area_in storage area); area = area; into = None })
