-- How a line is read, field by field from the left, for the functions that read one.
use Rattle.std.specs.Prelude.{ℕ, zero, suc, not, ◌+◌, ◌-◌, ◌*◌, ◌^◌, Bool, ◌&&◌, ◌==◌, nat_lt, nat_le, nat_eq, List, [], ◌∷◌, length, take, drop, Option, Some, None, option_map, if◌then◌else◌, codes, decimal}
use Rattle.std.specs.List.{after_first, concat, position_or_len, starts_with}
use Rattle.std.specs.Str.{bytes_eq}
use Rattle.com_text.specs.Text.{is_text}
use Rattle.com_cd.specs.Designation.{names_length}
use Rattle.com_cd.specs.declared.input_area.TheConstants.{IN_AREA_LENGTH}
use Rattle.com_text.specs.Name.{is_name}
use Rattle.com_text.specs.Digits.{number}
use Rattle.com_text.specs.Counted.{counted_field, is_colon}
use Rattle.com_text.specs.declared.counted.TheConstants.{MAX_COUNTED}
use Rattle.com_msg.specs.Stamp.{Moment, moment, is_moment}
use Rattle.com_msg.specs.declared.sending.Advance.{Advance}
use Rattle.com_msg.specs.declared.sending.Advance.TheVariants.{Before, After, BeforePage, AfterPage}
use Rattle.com_msg.specs.declared.sending.Part.{Part}
use Rattle.com_msg.specs.declared.sending.Part.TheVariants as part
use Rattle.com_cd.specs.OutputArea.{occurrences_of}
use Rattle.com_events.specs.declared.call.Party.{Party}
use Rattle.com_events.specs.declared.call.Party.TheVariants as party
use Rattle.com_events.specs.declared.call.EndReason.{EndReason}
use Rattle.com_events.specs.declared.call.EndReason.TheVariants as finish
use Rattle.com_events.specs.declared.call.Call.{Call}
use Rattle.com_events.specs.declared.call.Call.TheVariants.{Start, Receive, Count, Send, SwitchInput, SwitchOutput, Arrive, Held, Stop, Finish}
use Rattle.com_events.specs.declared.reply.Reply.{Reply}
use Rattle.com_events.specs.declared.reply.Reply.TheVariants.{Started, Given, NoData, Refused, Waits, AreaIn, AreaOut, Arrived, Done}
use Rattle.com_events.specs.declared.entry.Entry.{Entry}
use Rattle.com_msg.specs.declared.rest.TheConstants.{MAX_SIZE}
use Rattle.com_msg.specs.declared.sending.TheConstants.{MAX_ITEM_LENGTH, MAX_LINES}
use Rattle.com_msg.specs.declared.message.TheConstants.{MAX_SEGMENTS, MAX_SEGMENT_LENGTH, MAX_MESSAGE_LENGTH}
use Rattle.com_events.specs.declared.call.TheConstants.{MAX_KEY_LENGTH}
use Rattle.com_journal.specs.inner.Choices.{kind_of, wait_of, switch_of, input_of, end_of, stop_of, plain_end_of, frame_of}
use Rattle.com_journal.specs.inner.Outcomes.{◌>>=◌}

-- what follows these bytes at the front
abbrev pub behind : List ℕ → List ℕ → Option (List ℕ)
behind front bytes =
    if starts_with nat_eq bytes front then Some (drop (length front) bytes) else None

abbrev pub is_space : ℕ → Bool
is_space byte = byte == 32

-- Each of these reads a field after a space, and gives what it says and what is left after it.

-- a word: what stands before the next space or the end
unfoldable pub word_at : List ℕ → Option (List ℕ × List ℕ)
word_at bytes = do
  field ← behind (codes " ") bytes
  let end = position_or_len is_space field
  Some (take end field, drop end field)

-- this word
unfoldable pub expected : List ℕ → List ℕ → Option (List ℕ)
expected word bytes = do
  found ← word_at bytes
  if bytes_eq found.0 word then Some found.1 else None

-- the number within bounds that a word writes
unfoldable pub number_in : ℕ → ℕ → List ℕ → Option ℕ
number_in least most word =
    let n = number word in
    if (nat_le least n && nat_le n most) && bytes_eq word (decimal n) then Some n else None

-- a number within bounds
unfoldable pub number_at : ℕ → ℕ → List ℕ → Option (ℕ × List ℕ)
number_at least most bytes = do
  word ← word_at bytes
  n ← number_in least most word.0
  Some (n, word.1)

-- so many bytes
unfoldable pub chunk_at : ℕ → List ℕ → Option (List ℕ × List ℕ)
chunk_at n bytes = do
  field ← behind (codes " ") bytes
  if nat_lt (length field) n then None else Some (take n field, drop n field)

-- the content of the counted field at the front, and what comes after it
unfoldable pub split_counted : List ℕ → Option (List ℕ × List ℕ)
split_counted bytes =
    let count = number (take (position_or_len is_colon bytes) bytes) in
    let content = take count (after_first is_colon bytes) in
    if nat_le (length content) MAX_COUNTED
    then option_map (λ rest. (content, rest)) (behind (counted_field content) bytes) else None

-- a counted field
unfoldable pub counted_at : List ℕ → Option (List ℕ × List ℕ)
counted_at bytes = do
  field ← behind (codes " ") bytes
  split_counted field

-- a counted field with a text of so many characters
abbrev pub is_text_of : ℕ → ℕ → List ℕ → Bool
is_text_of least most content =
    (nat_le least (length content) && nat_le (length content) most) && is_text content

unfoldable pub text_at : ℕ → ℕ → List ℕ → Option (List ℕ × List ℕ)
text_at least most bytes = do
  found ← counted_at bytes
  if is_text_of least most found.0 then Some found else None

-- a counted field with an input area
abbrev pub is_input_area : List ℕ → Bool
is_input_area content = (length content == IN_AREA_LENGTH) && is_text content

unfoldable pub in_area_at : List ℕ → Option (List ℕ × List ℕ)
in_area_at bytes = do
  found ← counted_at bytes
  if is_input_area found.0 then Some found else None

-- a counted field with an output area
abbrev pub is_output_area : List ℕ → Bool
is_output_area content =
    let n = occurrences_of content in
    ((nat_le 1 n && nat_le n 8) && (length content == 10 + 13 * n)) && is_text content

unfoldable pub out_area_at : List ℕ → Option (List ℕ × List ℕ)
out_area_at bytes = do
  found ← counted_at bytes
  if is_output_area found.0 then Some found else None

-- The parts of a call, and each call after its verb.

unfoldable pub receive_at : List ℕ → Option (Call × List ℕ)
receive_at bytes = do
  word ← word_at bytes
  kind ← kind_of word.0
  size ← number_at 1 MAX_SIZE word.1
  waiting ← word_at size.1
  no_data ← wait_of waiting.0
  area ← in_area_at waiting.1
  Some (Receive area.0 kind size.0 no_data, area.1)

unfoldable pub count_at : List ℕ → Option (Call × List ℕ)
count_at bytes = do
  area ← in_area_at bytes
  Some (Count area.0, area.1)

-- how far: a page, or so many lines
unfoldable pub advance_by : Advance → (ℕ → Advance) → List ℕ → Option Advance
advance_by page lines how =
    if bytes_eq how (codes "P") then Some page else option_map lines (number_in 0 MAX_LINES how)

unfoldable pub advance_of : List ℕ → Option Advance
advance_of [] = None
advance_of (side ∷ how) =
    if side == 66 then advance_by BeforePage Before how
    else if side == 65 then advance_by AfterPage After how else None

-- what an indicator makes of an advance
unfoldable pub indicated : List ℕ → Advance → Option Part
indicated word advance =
    if bytes_eq word (codes "ESI") then Some (part.Esi advance)
    else if bytes_eq word (codes "EMI") then Some (part.Emi advance)
    else if bytes_eq word (codes "EGI") then Some (part.Egi advance) else None

unfoldable pub indicator_at : List ℕ → List ℕ → Option (Part × List ℕ)
indicator_at indicator bytes = do
  word ← word_at bytes
  advance ← advance_of word.0
  part ← indicated indicator advance
  Some (part, word.1)

unfoldable pub part_at : List ℕ → Option (Part × List ℕ)
part_at bytes = do
  word ← word_at bytes
  if bytes_eq word.0 (codes "PART") then Some (part.Portion, word.1)
      else indicator_at word.0 word.1

-- an item, or a hyphen
unfoldable pub item_at : List ℕ → Option (Option (List ℕ) × List ℕ)
item_at bytes = elim (behind (codes " -") bytes) [
  | Some rest ↦ Some (None, rest)
  | None ↦ option_map (λ text. (Some text.0, text.1)) (text_at 1 MAX_ITEM_LENGTH bytes)
]

unfoldable pub send_at : List ℕ → Option (Call × List ℕ)
send_at bytes = do
  part ← part_at bytes
  item ← item_at part.1
  area ← out_area_at item.1
  Some (Send area.0 part.0 item.0, area.1)

unfoldable pub switch_output_at : Bool → List ℕ → Option (Call × List ℕ)
switch_output_at on bytes = do
  key ← text_at 0 MAX_KEY_LENGTH bytes
  area ← out_area_at key.1
  Some (SwitchOutput on area.0 key.0, area.1)

unfoldable pub switch_input_at : Bool → Bool → List ℕ → Option (Call × List ℕ)
switch_input_at on terminal bytes = do
  key ← text_at 0 MAX_KEY_LENGTH bytes
  area ← in_area_at key.1
  Some (SwitchInput on terminal area.0 key.0, area.1)

unfoldable pub input_at : Bool → List ℕ → List ℕ → Option (Call × List ℕ)
input_at on word bytes = do
  terminal ← input_of word
  switch_input_at on terminal bytes

unfoldable pub switch_at : Bool → List ℕ → Option (Call × List ℕ)
switch_at on bytes = do
  word ← word_at bytes
  if bytes_eq word.0 (codes "OUTPUT") then switch_output_at on word.1
      else input_at on word.0 word.1

unfoldable pub stop_at : List ℕ → Option (Call × List ℕ)
stop_at bytes = do
  word ← word_at bytes
  reason ← stop_of word.0
  Some (Stop reason, word.1)

-- so many segments
unfoldable pub segments_at : ℕ → List ℕ → Option (List (List ℕ) × List ℕ)
segments_at zero bytes = Some ([], bytes)
segments_at (suc n) bytes = do
  first ← text_at 0 MAX_SEGMENT_LENGTH bytes
  others ← segments_at n first.1
  Some (first.0 ∷ others.0, others.1)

unfoldable pub stamp_of : List ℕ → List ℕ → Option Moment
stamp_of date time = if is_moment (moment date time) then Some (moment date time) else None

unfoldable pub stamp_at : List ℕ → Option (Moment × List ℕ)
stamp_at bytes = do
  date ← chunk_at 6 bytes
  time ← chunk_at 8 date.1
  stamp ← stamp_of date.0 time.0
  Some (stamp, time.1)

-- no more characters in all than a message may have
abbrev pub are_short : List (List ℕ) → Bool
are_short segments = not (nat_lt MAX_MESSAGE_LENGTH (length (concat segments)))

unfoldable pub arrive_at : List ℕ → Option (Call × List ℕ)
arrive_at bytes = do
  stamp ← stamp_at bytes
  word ← word_at stamp.1
  end ← end_of word.0
  count ← number_at 1 MAX_SEGMENTS word.1
  segments ← segments_at count.0 count.1
  if are_short segments.0
      then Some (Arrive stamp.0 (record { segments = segments.0; end = end }), segments.1)
      else None

unfoldable pub frame_at : List ℕ → Option (EndReason × List ℕ)
frame_at bytes = do
  word ← word_at bytes
  kind ← frame_of word.0
  at ← number_at 0 (10 ^ 18 - 1) word.1
  Some (finish.Frame (record { at = at.0; kind = kind }), at.1)

unfoldable pub reason_at : List ℕ → Option (EndReason × List ℕ)
reason_at bytes = do
  word ← word_at bytes
  if bytes_eq word.0 (codes "FRAME") then frame_at word.1
      else option_map (λ reason. (reason, word.1)) (plain_end_of word.0)

unfoldable pub finish_at : List ℕ → Option (Call × List ℕ)
finish_at bytes = do
  reason ← reason_at bytes
  Some (Finish reason.0, reason.1)

-- Who calls, and what for.

unfoldable pub first_at : List ℕ → Option (ℕ × List ℕ)
first_at [] = None
first_at (byte ∷ bytes) = Some (byte, bytes)

unfoldable pub name_of : List ℕ → Option (List ℕ)
name_of word = if is_name word then Some word else None

unfoldable pub party_of : ℕ → List ℕ → Option Party
party_of sort name =
    if sort == 85 then Some (party.Unit name)
    else if sort == 84 then Some (party.Terminal name) else None

-- the party at the beginning of a line, where no space stands before it
unfoldable pub party_at : List ℕ → Option (Party × List ℕ)
party_at bytes = do
  sort ← first_at bytes
  word ← word_at sort.1
  name ← name_of word.0
  party ← party_of sort.0 name
  Some (party, word.1)

unfoldable pub unit_verb : List ℕ → List ℕ → Option (Call × List ℕ)
unit_verb verb bytes =
    if bytes_eq verb (codes "START") then Some (Start, bytes)
    else if bytes_eq verb (codes "RECEIVE") then receive_at bytes
    else if bytes_eq verb (codes "COUNT") then count_at bytes
    else if bytes_eq verb (codes "SEND") then send_at bytes
    else if bytes_eq verb (codes "STOP") then stop_at bytes
    else switch_of verb >>= λ on. switch_at on bytes

unfoldable pub terminal_verb : List ℕ → List ℕ → Option (Call × List ℕ)
terminal_verb verb bytes =
    if bytes_eq verb (codes "ARRIVE") then arrive_at bytes
    else if bytes_eq verb (codes "HELD") then Some (Held, bytes)
    else if bytes_eq verb (codes "END") then finish_at bytes else None

unfoldable pub verb_behind : Party → List ℕ → List ℕ → Option (Call × List ℕ)
verb_behind (party.Unit name) verb bytes = unit_verb verb bytes
verb_behind (party.Terminal name) verb bytes = terminal_verb verb bytes

-- a party and its call, at the beginning of a line
unfoldable pub call_at : List ℕ → Option ((Party × Call) × List ℕ)
call_at line = do
  party ← party_at line
  verb ← word_at party.1
  call ← verb_behind party.0 verb.0 verb.1
  Some ((party.0, call.0), call.1)

-- What a call is answered.

-- the four names, or none if there are no characters
unfoldable pub names_of : List ℕ → Option (Option (List ℕ))
names_of content =
    if length content == 0 then Some None
    else if (length content == names_length) && is_text content then Some (Some content) else None

unfoldable pub names_at : List ℕ → Option (Option (List ℕ) × List ℕ)
names_at bytes = do
  found ← counted_at bytes
  names ← names_of found.0
  Some (names, found.1)

unfoldable pub started_at : List ℕ → Option (Reply × List ℕ)
started_at bytes = do
  names ← names_at bytes
  Some (Started names.0, names.1)

unfoldable pub given_at : List ℕ → Option (Reply × List ℕ)
given_at bytes = do
  area ← in_area_at bytes
  text ← text_at 0 MAX_SIZE area.1
  Some (Given area.0 text.0, text.1)

unfoldable pub without_data : List ℕ → Option (Reply × List ℕ)
without_data bytes = do
  area ← in_area_at bytes
  Some (NoData area.0, area.1)

unfoldable pub refused_at : List ℕ → Option (Reply × List ℕ)
refused_at bytes = do
  area ← in_area_at bytes
  Some (Refused area.0, area.1)

unfoldable pub received_behind : List ℕ → List ℕ → Option (Reply × List ℕ)
received_behind word bytes =
    if bytes_eq word (codes "TEXT") then given_at bytes
    else if bytes_eq word (codes "NONE") then without_data bytes
    else if bytes_eq word (codes "REFUSED") then refused_at bytes
    else if bytes_eq word (codes "WAITS") then Some (Waits, bytes) else None

unfoldable pub received_at : List ℕ → Option (Reply × List ℕ)
received_at bytes = do
  word ← word_at bytes
  received_behind word.0 word.1

unfoldable pub input_after : List ℕ → Option (Reply × List ℕ)
input_after bytes = do
  area ← in_area_at bytes
  Some (AreaIn area.0, area.1)

unfoldable pub output_after : List ℕ → Option (Reply × List ℕ)
output_after bytes = do
  area ← out_area_at bytes
  Some (AreaOut area.0, area.1)

unfoldable pub arrived_at : List ℕ → Option (Reply × List ℕ)
arrived_at bytes = do
  n ← number_at 1 (10 ^ 18 - 1) bytes
  Some (Arrived n.0, n.1)

unfoldable pub done_at : List ℕ → Option (Reply × List ℕ)
done_at bytes = do
  rest ← expected (codes "DONE") bytes
  Some (Done, rest)

unfoldable pub reply_at : Call → List ℕ → Option (Reply × List ℕ)
reply_at Start bytes = started_at bytes
reply_at (Receive area kind size no_data) bytes = received_at bytes
reply_at (Count area) bytes = input_after bytes
reply_at (Send area part item) bytes = output_after bytes
reply_at (SwitchInput on terminal area key) bytes = input_after bytes
reply_at (SwitchOutput on area key) bytes = output_after bytes
reply_at (Arrive stamp message) bytes = arrived_at bytes
reply_at Held bytes = done_at bytes
reply_at (Stop reason) bytes = done_at bytes
reply_at (Finish reason) bytes = done_at bytes

-- Whole lines.

-- nothing is left
unfoldable pub end_at : List ℕ → Option (List ℕ)
end_at bytes = if length bytes == 0 then Some bytes else None

unfoldable pub call_of : List ℕ → Option (Party × Call)
call_of line = do
  found ← call_at line
  rest ← end_at found.1
  Some found.0

unfoldable pub entry_of : List ℕ → Option Entry
entry_of line = do
  found ← call_at line
  rest ← expected (codes "=") found.1
  reply ← reply_at found.0.1 rest
  end ← end_at reply.1
  Some (record { party = found.0.0; call = found.0.1; reply = reply.0 })
