-- A line's length is bounded by the limits of its parts.
use Rattle.std.proofs.Common.{◌≡◌, ℕ, ◌+◌, ◌*◌, ◌<◌, ◌≤◌, ◌^◌, true, false, Bool, None, Some, Option, List, [], ◌∷◌, ◌++◌, length, map, refl, ap, arith, length-append}
use Rattle.std.specs.Prelude.{decimal, codes, ◌==◌, ◌&&◌}
use Rattle.std.specs.List.{AllByRecursion}
use Rattle.std.specs.Option.{IfSome}
use Rattle.std.specs.Str.{all_ascii_digits}
use Rattle.std.proofs.lemmas.Bool.{and_parts, eqb-true}
use Rattle.std.proofs.lemmas.Fmt.{length-decimal-le}
use Rattle.std.proofs.lemmas.List.Elements.{recursion_from_All}
use Rattle.com_text.specs.Counted.{counted_field}
use Rattle.com_text.proofs.CountedFields.{length-counted}
use Rattle.com_text.proofs.Fields.{length-name}
use Rattle.com_msg.specs.Rendering.{IsAdvance}
use Rattle.com_msg.specs.Stamp.{Moment, IsMoment, has_form}
use Rattle.com_msg.specs.declared.sending.Advance.{Advance}
use Rattle.com_msg.specs.declared.sending.Advance.TheVariants.{Before, After, BeforePage, AfterPage}
use Rattle.com_msg.specs.declared.sending.Part.{Part}
use Rattle.com_msg.specs.declared.sending.Part.TheVariants as part
use Rattle.com_msg.specs.declared.message.End.{End}
use Rattle.com_msg.specs.declared.message.End.TheVariants.{Emi, Egi}
use Rattle.com_msg.specs.declared.message.TheConstants.{MAX_SEGMENT_LENGTH}
use Rattle.com_msg.specs.declared.rest.Kind.{Kind}
use Rattle.com_msg.specs.declared.rest.Kind.TheVariants.{Message, Segment}
use Rattle.com_msg.specs.declared.framing.FrameKind.{FrameKind}
use Rattle.com_msg.specs.declared.framing.FrameKind.TheVariants.{BadByte, LongSegment, LongMessage, TooMany, Truncated}
use Rattle.com_events.specs.declared.call.Party.{Party}
use Rattle.com_events.specs.declared.call.Party.TheVariants as party
use Rattle.com_events.specs.declared.call.StopReason.{StopReason}
use Rattle.com_events.specs.declared.call.StopReason.TheVariants as stop
use Rattle.com_events.specs.declared.call.EndReason.{EndReason}
use Rattle.com_events.specs.declared.call.EndReason.TheVariants as finish
use Rattle.com_events.specs.declared.call.Call.{Call}
use Rattle.com_events.specs.declared.call.Call.TheVariants.{Start, Receive, Count, Send, SwitchInput, SwitchOutput, Arrive, Held, Stop, Finish}
use Rattle.com_events.specs.declared.reply.Reply.{Reply}
use Rattle.com_events.specs.declared.reply.Reply.TheVariants.{Started, Given, NoData, Refused, Waits, AreaIn, AreaOut, Arrived, Done}
use Rattle.com_events.specs.declared.entry.Entry.{Entry}
use Rattle.com_events.specs.Calls.{IsPart, IsItem, IsEndReason, IsWellFormed, IsCallOf, AreNames, IsReplyTo}
use Rattle.com_journal.specs.Words.{kind_word, wait_word, switch_word, input_word, end_word, stop_word, frame_word}
use Rattle.com_journal.specs.Lines.{advance_field, part_fields, item_field, end_fields, call_fields, reply_fields, IsLine}
use Rattle.com_journal.specs.inner.Writing.{party_sort, party_name}
use Rattle.com_journal.proofs.Spelled.{spelled}
use Rattle.com_journal.proofs.LineLaws.{line-spelled}

-- how many bytes fields have, each behind a space
abbrev total : List (List ℕ) → ℕ
total [] = 0
total (field ∷ fields) = length field + 1 + total fields

length-spelled : (fields : List (List ℕ)) (rest : List ℕ) → length (spelled fields rest) ≡ total fields + length rest
length-spelled [] rest = omega arith
length-spelled (field ∷ fields) rest =
    omega (arith, length-spelled fields rest, length-append field (spelled fields rest))

total-append : (a b : List (List ℕ)) → total (a ++ b) ≡ total a + total b
total-append [] b = omega arith
total-append (field ∷ a) b = omega (arith, total-append a b)

counted_short : (content : List ℕ) → length content ≤ 999999 → length (counted_field content) ≤ length content + 7
counted_short content few =
    omega (arith, length-counted content, length-decimal-le 6 (length content) (omega arith) (omega arith) (omega arith))

kind_short : (kind : Kind) → length (kind_word kind) ≤ 7
kind_short Message = omega arith
kind_short Segment = omega arith

wait_short : (no_data : Bool) → length (wait_word no_data) ≤ 6
wait_short true = omega arith
wait_short false = omega arith

switch_short : (on : Bool) → length (switch_word on) ≤ 7
switch_short true = omega arith
switch_short false = omega arith

input_short : (terminal : Bool) → length (input_word terminal) ≤ 8
input_short true = omega arith
input_short false = omega arith

end_short : (end : End) → length (end_word end) ≤ 3
end_short Emi = omega arith
end_short Egi = omega arith

stop_short : (reason : StopReason) → length (stop_word reason) ≤ 5
stop_short stop.Run = omega arith
stop_short stop.Limit = omega arith
stop_short stop.DataFault = omega arith
stop_short stop.Idle = omega arith

frame_short : (kind : FrameKind) → length (frame_word kind) ≤ 11
frame_short BadByte = omega arith
frame_short LongSegment = omega arith
frame_short LongMessage = omega arith
frame_short TooMany = omega arith
frame_short Truncated = omega arith

advance_short : (advance : Advance) → IsAdvance advance → length (advance_field advance) ≤ 3
advance_short (Before n) h = omega (arith, length-decimal-le 2 n (omega arith) (omega (arith, h)) (omega (arith, h)))
advance_short (After n) h = omega (arith, length-decimal-le 2 n (omega arith) (omega (arith, h)) (omega (arith, h)))
advance_short BeforePage h = omega arith
advance_short AfterPage h = omega arith

part_short : (sent : Part) → IsPart sent → total (part_fields sent) ≤ 9
part_short part.Portion h = omega arith
part_short (part.Esi advance) h = omega (arith, advance_short advance h)
part_short (part.Emi advance) h = omega (arith, advance_short advance h)
part_short (part.Egi advance) h = omega (arith, advance_short advance h)

item_short : (item : Option (List ℕ)) → IfSome item IsItem → length (item_field item) ≤ 2007
item_short None h = omega arith
item_short (Some item) h = omega (arith, h.2, counted_short item (omega (arith, h.2)))

reason_short : (reason : EndReason) → IsEndReason reason → total (end_fields reason) ≤ 40
reason_short finish.End h = omega arith
reason_short finish.Fault h = omega arith
reason_short finish.Long h = omega arith
reason_short finish.Idle h = omega arith
reason_short (finish.Frame fault) h =
    omega (arith, frame_short fault.kind, length-decimal-le 18 fault.at (omega arith) h (omega (arith, h)))

segments_short : (segments : List (List ℕ)) → AllByRecursion (λ segment. length segment ≤ MAX_SEGMENT_LENGTH) segments → total (map counted_field segments) ≤ 2008 * length segments
segments_short [] h = omega arith
segments_short (segment ∷ segments) h =
    omega (arith, h.0, counted_short segment (omega (arith, h.0)), segments_short segments h.1)

date_short : (m : Moment) → IsMoment m → length m.date ≡ 6
date_short m h =
    let form = (and_parts (has_form m) _ h).0 in
    let digits = (and_parts ((length m.date == 6 && length m.time == 8) && all_ascii_digits m.date) _ form).0 in
    let lengths = (and_parts (length m.date == 6 && length m.time == 8) _ digits).0 in
    eqb-true (length m.date) 6 (and_parts (length m.date == 6) _ lengths).0

time_short : (m : Moment) → IsMoment m → length m.time ≡ 8
time_short m h =
    let form = (and_parts (has_form m) _ h).0 in
    let digits = (and_parts ((length m.date == 6 && length m.time == 8) && all_ascii_digits m.date) _ form).0 in
    let lengths = (and_parts (length m.date == 6 && length m.time == 8) _ digits).0 in
    eqb-true (length m.time) 8 (and_parts (length m.date == 6) _ lengths).1

call_short : (call : Call) → IsWellFormed call → total (call_fields call) ≤ 30000000
call_short Start h = omega arith
call_short (Receive area kind size no_data) h =
    omega (arith, kind_short kind, wait_short no_data, length-decimal-le 4 size (omega arith) (omega (arith, h.2)) (omega (arith, h.2)), h.0.length, counted_short area (omega (arith, h.0.length)))
call_short (Count area) h = omega (arith, h.length, counted_short area (omega (arith, h.length)))
call_short (Send area sent item) h =
    omega (arith, total-append (codes "SEND" ∷ part_fields sent) (item_field item ∷ counted_field area ∷ []), part_short sent h.1, item_short item h.2, h.0.whole, h.0.few, counted_short area (omega (arith, h.0.whole, h.0.few)))
call_short (SwitchInput on terminal area key) h =
    omega (arith, switch_short on, input_short terminal, h.1.1, counted_short key (omega (arith, h.1.1)), h.0.length, counted_short area (omega (arith, h.0.length)))
call_short (SwitchOutput on area key) h =
    omega (arith, switch_short on, h.1.1, counted_short key (omega (arith, h.1.1)), h.0.whole, h.0.few, counted_short area (omega (arith, h.0.whole, h.0.few)))
call_short (Arrive stamp message) h =
    omega (
      arith,
      date_short stamp h.0,
      time_short stamp h.0,
      end_short message.end,
      h.1.limits.few,
      length-decimal-le 4 (length message.segments) (omega arith) (omega (arith, h.1.limits.few)) (omega (arith, h.1.limits.few)),
      segments_short message.segments (recursion_from_All (λ segment. length segment ≤ MAX_SEGMENT_LENGTH) message.segments h.1.limits.short),
    )
call_short Held h = omega arith
call_short (Stop reason) h = omega (arith, stop_short reason)
call_short (Finish reason) h = omega (arith, reason_short reason h)

names_short : (names : Option (List ℕ)) → IfSome names AreNames → total (reply_fields (Started names)) ≤ 100
names_short None h = omega (arith, counted_short [] (omega arith))
names_short (Some names) h = omega (arith, h.1, counted_short names (omega (arith, h.1)))

in_short : (area : List ℕ) → length area ≡ 87 → length (counted_field area) ≤ 94
in_short area h = omega (arith, h, counted_short area (omega (arith, h)))

reply_short : (call : Call) (reply : Reply) → IsReplyTo call reply → total (reply_fields reply) ≤ 10000
reply_short Start (Started names) h = omega (arith, names_short names h)
reply_short (Receive area kind size no_data) (Given after text) h =
    omega (arith, in_short after h.0.length, h.2, counted_short text (omega (arith, h.2)))
reply_short (Receive area kind size no_data) (NoData after) h = omega (arith, in_short after h.length)
reply_short (Receive area kind size no_data) (Refused after) h = omega (arith, in_short after h.length)
reply_short (Receive area kind size no_data) Waits h = omega arith
reply_short (Count area) (AreaIn after) h = omega (arith, in_short after h.length)
reply_short (Send area sent item) (AreaOut after) h = omega (arith, h.whole, h.few, counted_short after (omega (arith, h.whole, h.few)))
reply_short (SwitchInput on terminal area key) (AreaIn after) h = omega (arith, in_short after h.length)
reply_short (SwitchOutput on area key) (AreaOut after) h = omega (arith, h.whole, h.few, counted_short after (omega (arith, h.whole, h.few)))
reply_short (Arrive stamp message) (Arrived number) h =
    omega (arith, length-decimal-le 18 number (omega arith) h.1 (omega (arith, h.1)))
reply_short Held Done h = omega arith
reply_short (Stop reason) Done h = omega arith
reply_short (Finish reason) Done h = omega arith
reply_short _ _ h = absurd h

name_short : (who : Party) (call : Call) → IsCallOf who call → length (party_name who) ≤ 12
name_short (party.Unit name) call h = (length-name name h.0).1
name_short (party.Terminal name) call h = (length-name name h.0).1

-- a line's length can be written in four bytes
pub short_line : (entry : Entry) (line : List ℕ) → IsLine entry line → length line < 2 ^ 32
short_line entry line h =
    let first = party_name entry.party ∷ call_fields entry.call in
    let last = codes "=" ∷ reply_fields entry.reply in
    omega (
      arith,
      ap length (line-spelled entry line h),
      length-spelled first (spelled last []),
      length-spelled last [],
      name_short entry.party entry.call h.has_text.caller,
      call_short entry.call h.has_text.call,
      reply_short entry.call entry.reply h.has_text.reply,
    )
