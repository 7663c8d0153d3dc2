-- The calls that verbs make, and what their replies leave.
use Rattle.std.specs.Prelude.{ℕ, Bool, List, Option, Some, None, if◌then◌else◌, nat_le, codes, bytes_eq, option_map}
use Rattle.com_msg.specs.declared.rest.Kind.TheVariants as kind
use Rattle.com_msg.specs.declared.sending.Advance.{Advance}
use Rattle.com_msg.specs.declared.sending.Advance.TheVariants.{Before, After, BeforePage, AfterPage}
use Rattle.com_msg.specs.declared.sending.Part.{Part}
use Rattle.com_msg.specs.declared.sending.Part.TheVariants as part
use Rattle.com_msg.specs.declared.sending.TheConstants.{MAX_LINES}
use Rattle.com_events.specs.declared.call.Call.{Call}
use Rattle.com_events.specs.declared.call.Call.TheVariants as call
use Rattle.com_events.specs.declared.reply.Reply.{Reply}
use Rattle.com_events.specs.declared.reply.Reply.TheVariants.{Given, NoData, Refused, AreaIn, AreaOut}
use Rattle.cob_forms.specs.declared.written.Name.{Name}
use Rattle.cob_proc.specs.declared.tree.Advancing.{Advancing}
use Rattle.cob_proc.specs.declared.tree.Ending.{Ending}
use Rattle.cob_proc.specs.declared.tree.Identifier.{Identifier}
use Rattle.cob_proc.specs.declared.tree.Indicator.{Indicator}
use Rattle.cob_proc.specs.declared.tree.Indicator.TheVariants as indicator
use Rattle.cob_proc.specs.declared.tree.Key.{Key}
use Rattle.cob_proc.specs.declared.tree.Key.TheVariants as key
use Rattle.cob_proc.specs.declared.tree.Lines.{Lines}
use Rattle.cob_proc.specs.declared.tree.Lines.TheVariants as lines
use Rattle.cob_data.specs.declared.tree.ItemPlace.{ItemPlace}
use Rattle.cob_meaning.specs.Layouts.{◌>>=◌, Layout, cd_of}
use Rattle.cob_meaning.specs.Storage.{Storage, area_in, with_area, held_by, with_prefix}
use Rattle.cob_meaning.specs.Moves.{addend_number, item_at}

-- A call that a verb makes, the area of its CD, and the item of INTO, which is found before the
-- call.
pub record Request : Type 0 where
  pub call : Call
  pub area : ℕ
  pub into : Option ItemPlace

-- The functions below give none if the unit stops for DATA before its call.

-- RECEIVE asks for as many characters as the item of INTO has
abbrev pub receive : Layout → Name → Bool → Identifier → Bool → Storage → Option Request
receive layout cd segment into no_data storage = do
  area ← cd_of layout cd
  item ← item_at layout into storage
  let received = if segment then kind.Segment else kind.Message
  Some (record {
    call = call.Receive (area_in storage area) received item.length no_data;
    area = area;
    into = Some item;
  })

-- the characters that are sent, if there is an item after FROM
abbrev pub sent_text : Layout → Option Identifier → Storage → Option (Option (List ℕ))
sent_text layout None storage = Some None
sent_text layout (Some from) storage = do
  item ← item_at layout from storage
  Some (Some (held_by item storage))

-- the lines to be advanced, at most 99
abbrev pub some_lines : ℕ → Option ℕ
some_lines n = if nat_le n MAX_LINES then Some n else None

-- how a text is advanced by lines or to a page
abbrev pub advance_by : Layout → Bool → Lines → Storage → Option Advance
advance_by layout after (lines.Count counted) storage = do
  n ← addend_number layout counted storage
  m ← some_lines n
  Some (if after then After m else Before m)
advance_by layout after lines.Page storage = Some (if after then AfterPage else BeforePage)

-- how a text is advanced: after one line if nothing is written
abbrev pub advance_of : Layout → Option Advancing → Storage → Option Advance
advance_of layout None storage = Some (After 1)
advance_of layout (Some advancing) storage =
    advance_by layout advancing.after advancing.lines storage

-- the end that an item's character indicates: 1 is ESI, 2 is EMI, 3 is EGI
abbrev pub indicated : List ℕ → Option (Advance → Part)
indicated character =
    if bytes_eq character (codes "1") then Some part.Esi
    else (if bytes_eq character (codes "2") then Some part.Emi
    else (if bytes_eq character (codes "3") then Some part.Egi else None))

-- what a SEND ends; ADVANCING is read only where a segment ends
abbrev pub part_by : Layout → Option (Advance → Part) → Option Advancing → Storage → Option Part
part_by layout None advancing storage = Some part.Portion
part_by layout (Some end) advancing storage = option_map end (advance_of layout advancing storage)

-- what a SEND ends with this indicator
abbrev pub part_with : Layout → Indicator → Option Advancing → Storage → Option Part
part_with layout (indicator.Item identifier) advancing storage = do
  item ← item_at layout identifier storage
  part_by layout (indicated (held_by item storage)) advancing storage
part_with layout indicator.Esi advancing storage = part_by layout (Some part.Esi) advancing storage
part_with layout indicator.Emi advancing storage = part_by layout (Some part.Emi) advancing storage
part_with layout indicator.Egi advancing storage = part_by layout (Some part.Egi) advancing storage

-- what a SEND ends: nothing if no end is written
abbrev pub part_of : Layout → Option Ending → Storage → Option Part
part_of layout None storage = Some part.Portion
part_of layout (Some ending) storage = part_with layout ending.indicator ending.advancing storage

-- SEND
abbrev pub send : Layout → Name → Option Identifier → Option Ending → Storage → Option Request
send layout cd from ending storage = do
  area ← cd_of layout cd
  text ← sent_text layout from storage
  ended ← part_of layout ending storage
  Some (record { call = call.Send (area_in storage area) ended text; area = area; into = None })

-- the characters of a key, as the item holds them or the literal is written
abbrev pub key_characters : Layout → Key → Storage → Option (List ℕ)
key_characters layout (key.Item identifier) storage = do
  item ← item_at layout identifier storage
  Some (held_by item storage)
key_characters layout (key.Literal literal) storage = Some literal.characters

-- ENABLE and DISABLE INPUT
abbrev pub switch_input : Layout → Bool → Bool → Name → Key → Storage → Option Request
switch_input layout on terminal cd password storage = do
  area ← cd_of layout cd
  characters ← key_characters layout password storage
  Some (record {
    call = call.SwitchInput on terminal (area_in storage area) characters;
    area = area;
    into = None;
  })

-- ENABLE and DISABLE OUTPUT
abbrev pub switch_output : Layout → Bool → Name → Key → Storage → Option Request
switch_output layout on cd password storage = do
  area ← cd_of layout cd
  characters ← key_characters layout password storage
  Some (record {
    call = call.SwitchOutput on (area_in storage area) characters;
    area = area;
    into = None;
  })

-- ACCEPT MESSAGE COUNT
abbrev pub accept : Layout → Name → Storage → Option Request
accept layout cd storage = do
  area ← cd_of layout cd
  Some (record { call = call.Count (area_in storage area); area = area; into = None })

-- the area that a reply brings
abbrev pub area_after : Reply → Option (List ℕ)
area_after (Given area text) = Some area
area_after (NoData area) = Some area
area_after (Refused area) = Some area
area_after (AreaIn area) = Some area
area_after (AreaOut area) = Some area
area_after _ = None

-- the storage with the area that a reply brings
abbrev pub with_reply_area : ℕ → Option (List ℕ) → Storage → Storage
with_reply_area area None storage = storage
with_reply_area area (Some after) storage = with_area area after storage

-- the storage with the text that a reply brings, from the left end of the item of INTO
abbrev pub with_text : Option ItemPlace → Reply → Storage → Storage
with_text (Some item) (Given area text) storage = with_prefix item text storage
with_text _ _ storage = storage

-- the storage after a reply: first its area is placed, and then its text
abbrev pub with_reply : Request → Reply → Storage → Storage
with_reply request reply storage =
    with_text request.into reply (with_reply_area request.area (area_after reply) storage)
