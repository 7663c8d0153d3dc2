-- A line is a text, so no line feed stands in it, and lines are told apart by their line feeds.
use Rattle.std.proofs.Common.{◌≡◌, ℕ, ◌<◌, ◌^◌, true, not, None, Some, Option, List, [], ◌∷◌, ◌++◌, length, map, refl, arith}
use Rattle.std.specs.Prelude.{decimal, codes, ◌==◌, ◌&&◌}
use Rattle.std.specs.List.{list_all, AllByRecursion}
use Rattle.std.specs.Option.{IfSome}
use Rattle.std.proofs.lemmas.Bool.{and_from, and_parts}
use Rattle.std.proofs.lemmas.Bool.Decides.{nat_tests}
use Rattle.std.proofs.lemmas.Fmt.{digits_decimal}
use Rattle.std.proofs.lemmas.List.Folds.{list_all-append}
use Rattle.com_text.specs.Counted.{counted_field}
use Rattle.com_text.specs.Text.{IsText, is_text, is_text_byte}
use Rattle.com_text.proofs.Numerals.{own_digits}
use Rattle.com_text.proofs.Texts.{IsText-append, IsText-name, IsText-digits}
use Rattle.std.specs.Str.{all_ascii_digits}
use Rattle.com_msg.specs.Rendering.{IsAdvance}
use Rattle.com_msg.specs.Stamp.{Moment, IsMoment, has_form}
use Rattle.com_msg.specs.declared.sending.Advance.{Advance}
use Rattle.com_msg.specs.declared.sending.Advance.TheVariants.{Before, After, BeforePage, AfterPage}
use Rattle.com_msg.specs.declared.sending.Part.{Part}
use Rattle.com_msg.specs.declared.sending.Part.TheVariants as part
use Rattle.com_cd.specs.OutputArea.{IsOutputArea}
use Rattle.com_events.specs.declared.call.Party.{Party}
use Rattle.com_events.specs.declared.call.Party.TheVariants as party
use Rattle.com_events.specs.declared.call.EndReason.{EndReason}
use Rattle.com_events.specs.declared.call.EndReason.TheVariants as finish
use Rattle.com_events.specs.declared.call.Call.{Call}
use Rattle.com_events.specs.declared.call.Call.TheVariants.{Start, Receive, Count, Send, SwitchInput, SwitchOutput, Arrive, Held, Stop, Finish}
use Rattle.com_events.specs.declared.reply.Reply.{Reply}
use Rattle.com_events.specs.declared.reply.Reply.TheVariants.{Started, Given, NoData, Refused, Waits, AreaIn, AreaOut, Arrived, Done}
use Rattle.com_events.specs.declared.entry.Entry.{Entry}
use Rattle.com_events.specs.Calls.{IsPart, IsItem, IsEndReason, IsWellFormed, IsCallOf, AreNames, IsReplyTo}
use Rattle.com_msg.specs.declared.message.TheConstants.{MAX_SEGMENT_LENGTH}
use Rattle.com_journal.specs.Lines.{advance_field, part_fields, item_field, end_fields, call_fields, reply_fields, IsLine}
use Rattle.com_journal.specs.inner.Writing.{party_sort, party_name}
use Rattle.com_journal.specs.Scripts.{is_line_feed}
use Rattle.com_journal.specs.Faults.{IsUnbroken}
use Rattle.com_journal.proofs.Spelled.{spelled}
use Rattle.com_journal.proofs.FieldLaws.{IsTextOf}
use Rattle.com_journal.proofs.CallLaws.{segments_of}
use Rattle.com_journal.proofs.WordLaws.{chooses_kind, chooses_wait, chooses_switch, chooses_input, chooses_end, chooses_stop, chooses_frame}
use Rattle.com_journal.proofs.LineLaws.{line-spelled}

date_digits : (m : Moment) → IsMoment m → all_ascii_digits m.date ≡ true
date_digits m h =
    let form = (and_parts (has_form m) _ h).0 in
    let digits = (and_parts ((length m.date == 6 && length m.time == 8) && all_ascii_digits m.date) _ form).0 in
    (and_parts (length m.date == 6 && length m.time == 8) _ digits).1

time_digits : (m : Moment) → IsMoment m → all_ascii_digits m.time ≡ true
time_digits m h =
    let form = (and_parts (has_form m) _ h).0 in
    (and_parts ((length m.date == 6 && length m.time == 8) && all_ascii_digits m.date) _ form).1

-- all of the fields are texts
abbrev AreTexts : List (List ℕ) → Type 0
AreTexts fields = list_all is_text fields ≡ true

spelled_text : (fields : List (List ℕ)) (rest : List ℕ) → AreTexts fields → IsText rest → IsText (spelled fields rest)
spelled_text [] rest h t = t
spelled_text (field ∷ fields) rest h t =
    let parts = and_parts (is_text field) (list_all is_text fields) h in
    IsText-append (32 ∷ field) (spelled fields rest) parts.0 (spelled_text fields rest parts.1 t)

texts_append : (a b : List (List ℕ)) → AreTexts a → AreTexts b → AreTexts (a ++ b)
texts_append a b h k = rw (list_all-append is_text a b, h) k

decimal_text : (n : ℕ) → n < 2 ^ 64 → is_text (decimal n) ≡ true
decimal_text n fits = IsText-digits (decimal n) (digits_decimal own_digits n fits)

counted_text : (content : List ℕ) → length content < 2 ^ 64 → IsText content → is_text (counted_field content) ≡ true
counted_text content fits h = IsText-append (decimal (length content)) (58 ∷ content) (decimal_text (length content) fits) h

in_text : (area : List ℕ) → length area ≡ 87 → IsText area → is_text (counted_field area) ≡ true
in_text area h t = counted_text area (omega (arith, h)) t

out_text : (area : List ℕ) → IsOutputArea area → is_text (counted_field area) ≡ true
out_text area h = counted_text area (omega (arith, h.whole, h.few)) h.text

advance_text : (advance : Advance) → IsAdvance advance → is_text (advance_field advance) ≡ true
advance_text (Before n) h = decimal_text n (omega (arith, h))
advance_text (After n) h = decimal_text n (omega (arith, h))
advance_text BeforePage h = refl
advance_text AfterPage h = refl

part_texts : (sent : Part) → IsPart sent → AreTexts (part_fields sent)
part_texts part.Portion h = refl
part_texts (part.Esi advance) h = rw (advance_text advance h) refl
part_texts (part.Emi advance) h = rw (advance_text advance h) refl
part_texts (part.Egi advance) h = rw (advance_text advance h) refl

item_text : (item : Option (List ℕ)) → IfSome item IsItem → is_text (item_field item) ≡ true
item_text None h = refl
item_text (Some item) h = counted_text item (omega (arith, h.2)) h.0

reason_texts : (reason : EndReason) → IsEndReason reason → AreTexts (end_fields reason)
reason_texts finish.End h = refl
reason_texts finish.Fault h = refl
reason_texts finish.Long h = refl
reason_texts finish.Idle h = refl
reason_texts (finish.Frame fault) h = rw (chooses_frame.text fault.kind, decimal_text fault.at (omega (arith, h))) refl

segment_texts : (segments : List (List ℕ)) → AllByRecursion (IsTextOf 0 MAX_SEGMENT_LENGTH) segments → AreTexts (map counted_field segments)
segment_texts [] h = refl
segment_texts (segment ∷ segments) h =
    rw (counted_text segment (omega (arith, h.0.high)) h.0.text, segment_texts segments h.1) refl

call_texts : (call : Call) → IsWellFormed call → AreTexts (call_fields call)
call_texts Start h = refl
call_texts (Receive area kind size no_data) h =
    rw (chooses_kind.text kind, decimal_text size (omega (arith, h.2)), chooses_wait.text no_data, in_text area h.0.length h.0.text) refl
call_texts (Count area) h = rw (in_text area h.length h.text) refl
call_texts (Send area sent item) h =
    texts_append (part_fields sent) (item_field item ∷ counted_field area ∷ []) (part_texts sent h.1) (rw (item_text item h.2, out_text area h.0) refl)
call_texts (SwitchInput on terminal area key) h =
    rw (chooses_switch.text on, chooses_input.text terminal, counted_text key (omega (arith, h.1.1)) h.1.0, in_text area h.0.length h.0.text) refl
call_texts (SwitchOutput on area key) h =
    rw (chooses_switch.text on, counted_text key (omega (arith, h.1.1)) h.1.0, out_text area h.0) refl
call_texts (Arrive stamp message) h =
    rw (
      IsText-digits stamp.date (date_digits stamp h.0),
      IsText-digits stamp.time (time_digits stamp h.0),
      chooses_end.text message.end,
      decimal_text (length message.segments) (omega (arith, h.1.limits.few)),
    ) (segment_texts message.segments (segments_of message.segments h.1.texts h.1.limits.short))
call_texts Held h = refl
call_texts (Stop reason) h = rw (chooses_stop.text reason) refl
call_texts (Finish reason) h = reason_texts reason h

names_text : (names : Option (List ℕ)) → IfSome names AreNames → AreTexts (reply_fields (Started names))
names_text None h = rw (counted_text [] (omega arith) refl) refl
names_text (Some names) h = rw (counted_text names (omega (arith, h.1)) h.0) refl

reply_texts : (call : Call) (reply : Reply) → IsReplyTo call reply → AreTexts (reply_fields reply)
reply_texts Start (Started names) h = names_text names h
reply_texts (Receive area kind size no_data) (Given after text) h =
    rw (in_text after h.0.length h.0.text, counted_text text (omega (arith, h.2)) h.1) refl
reply_texts (Receive area kind size no_data) (NoData after) h = rw (in_text after h.length h.text) refl
reply_texts (Receive area kind size no_data) (Refused after) h = rw (in_text after h.length h.text) refl
reply_texts (Receive area kind size no_data) Waits h = refl
reply_texts (Count area) (AreaIn after) h = rw (in_text after h.length h.text) refl
reply_texts (Send area sent item) (AreaOut after) h = rw (out_text after h) refl
reply_texts (SwitchInput on terminal area key) (AreaIn after) h = rw (in_text after h.length h.text) refl
reply_texts (SwitchOutput on area key) (AreaOut after) h = rw (out_text after h) refl
reply_texts (Arrive stamp message) (Arrived number) h = rw (decimal_text number (omega (arith, h.1))) refl
reply_texts Held Done h = refl
reply_texts (Stop reason) Done h = refl
reply_texts (Finish reason) Done h = refl
reply_texts _ _ h = absurd h

name_text : (who : Party) (call : Call) → IsCallOf who call → is_text (party_name who) ≡ true
name_text (party.Unit name) call h = IsText-name name h.0
name_text (party.Terminal name) call h = IsText-name name h.0

sort_text : (who : Party) (rest : List ℕ) → IsText rest → IsText (party_sort who ∷ rest)
sort_text (party.Unit name) rest h = h
sort_text (party.Terminal name) rest h = h

-- the line of an entry is a text
pub line_text : (entry : Entry) (line : List ℕ) → IsLine entry line → IsText line
line_text entry line h =
    let reply = reply_texts entry.call entry.reply h.has_text.reply in
    let behind = spelled_text (codes "=" ∷ reply_fields entry.reply) [] reply refl in
    let call = call_texts entry.call h.has_text.call in
    let fields = and_from (is_text (party_name entry.party)) (list_all is_text (call_fields entry.call)) (name_text entry.party entry.call h.has_text.caller) call in
    let text = spelled (party_name entry.party ∷ call_fields entry.call) (spelled (codes "=" ∷ reply_fields entry.reply) []) in
    rw (line-spelled entry line h) (sort_text entry.party text (spelled_text (party_name entry.party ∷ call_fields entry.call) (spelled (codes "=" ∷ reply_fields entry.reply) []) fields behind))

-- no line feed stands in a text
no_feed : (byte : ℕ) → is_text_byte byte ≡ true → not (is_line_feed byte) ≡ true
no_feed byte h = grind (arith, nat_tests)

pub unbroken_text : (bytes : List ℕ) → IsText bytes → IsUnbroken bytes
unbroken_text [] h = refl
unbroken_text (byte ∷ bytes) h =
    let parts = and_parts (is_text_byte byte) (is_text bytes) h in
    rw (no_feed byte parts.0) (unbroken_text bytes parts.1)

-- two lines with what follows their line feeds are the same where all of their bytes are
feed_broken : (byte : ℕ) (bytes : List ℕ) → IsUnbroken (byte ∷ bytes) → 10 ≡ byte → ⊥
feed_broken byte bytes h e = grind (arith, nat_tests, h, e)

pub same_lines : (a b x y : List ℕ) → IsUnbroken a → IsUnbroken b → a ++ 10 ∷ x ≡ b ++ 10 ∷ y → (a ≡ b) × (x ≡ y)
same_lines [] [] x y h k e = (refl, cc)
same_lines [] (byte ∷ b) x y h k e = absurd (feed_broken byte b k cc)
same_lines (byte ∷ a) [] x y h k e = absurd (feed_broken byte a h cc)
same_lines (first ∷ a) (second ∷ b) x y h k e =
    let parts_a = and_parts (not (is_line_feed first)) (list_all (λ byte. not (is_line_feed byte)) a) h in
    let parts_b = and_parts (not (is_line_feed second)) (list_all (λ byte. not (is_line_feed byte)) b) k in
    let tails : a ++ 10 ∷ x ≡ b ++ 10 ∷ y = cc in
    let heads : first ≡ second = cc in
    let rest = same_lines a b x y parts_a.1 parts_b.1 tails in
    (rw (heads, rest.0) refl, rest.1)

-- bytes without a line feed do not begin with a line that has one
pub not_ended : (a b x : List ℕ) → IsUnbroken a → a ≡ b ++ 10 ∷ x → ⊥
not_ended [] [] x h e = cc
not_ended [] (byte ∷ b) x h e = cc
not_ended (byte ∷ a) [] x h e = feed_broken byte a h cc
not_ended (first ∷ a) (second ∷ b) x h e =
    let parts = and_parts (not (is_line_feed first)) (list_all (λ byte. not (is_line_feed byte)) a) h in
    let tails : a ≡ b ++ 10 ∷ x = cc in
    not_ended a b x parts.1 tails
