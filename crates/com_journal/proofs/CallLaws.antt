-- Each call is read from its fields, and from no others.
use Rattle.std.proofs.Common.{◌≡◌, ℕ, zero, suc, ◌-◌, ◌<◌, ◌≤◌, ◌^◌, Bool, true, false, None, Some, Option, List, [], ◌∷◌, ◌++◌, length, map, get_or, refl, sym, ap, ◌∙◌, subst, inl, inr, option_map, cond, ◌⊎◌, length-append, arith}
use Rattle.std.specs.Prelude.{decimal, codes, All, ◌==◌}
use Rattle.std.proofs.lemmas.List.Elements.{All-from_recursion, All-head, All-tail}
use Rattle.std.specs.List.{concat, AllByRecursion}
use Rattle.std.specs.Str.{bytes_eq}
use Rattle.std.specs.Option.{IfSome}
use Rattle.std.specs.Int.{IsInRange}
use Rattle.std.proofs.lemmas.Bool.{cases_Bool, eqb-true, false_from_ne_true}
use Rattle.std.proofs.lemmas.Bool.Decides.{nat_tests}
use Rattle.std.proofs.lemmas.Fmt.{decimal_nonempty, digits_decimal}
use Rattle.std.proofs.lemmas.List.{get_or_append_left}
use Rattle.std.proofs.lemmas.Option.{cond_some, none-some, same_Some, some_pair_parts}
use Rattle.std.proofs.lemmas.Str.Parse.{not_in_digits}
use Rattle.com_text.specs.Counted.{counted_field}
use Rattle.com_cd.specs.InputArea.{IsInputArea}
use Rattle.com_text.specs.Text.{IsText}
use Rattle.com_text.proofs.Numerals.{own_digits}
use Rattle.com_msg.specs.Rendering.{IsAdvance}
use Rattle.com_msg.specs.Stamp.{Moment, moment, IsMoment, is_moment}
use Rattle.com_msg.specs.declared.message.End.{End}
use Rattle.com_msg.specs.declared.message.RawMessage.{RawMessage}
use Rattle.com_msg.specs.declared.rest.Kind.{Kind}
use Rattle.com_msg.specs.declared.framing.FrameKind.{FrameKind}
use Rattle.com_msg.specs.declared.sending.Advance.{Advance}
use Rattle.com_msg.specs.declared.sending.Advance.TheVariants.{Before, After, BeforePage, AfterPage}
use Rattle.com_msg.specs.declared.sending.Part.{Part}
use Rattle.com_msg.specs.declared.sending.Part.TheVariants as part
use Rattle.com_events.specs.declared.call.StopReason.{StopReason}
use Rattle.com_events.specs.declared.call.EndReason.{EndReason}
use Rattle.com_events.specs.declared.call.EndReason.TheVariants as finish
use Rattle.com_events.specs.declared.call.Call.{Call}
use Rattle.com_events.specs.declared.call.Call.TheVariants.{Start, Receive, Count, Send, SwitchInput, SwitchOutput, Arrive, Held, Stop, Finish}
use Rattle.com_events.specs.Calls.{IsPart, IsItem, IsKey, IsTerminalMessage, IsEndReason, IsWellFormed, IsUnitCall}
use Rattle.com_msg.specs.declared.rest.TheConstants.{MAX_SIZE}
use Rattle.com_msg.specs.declared.sending.TheConstants.{MAX_ITEM_LENGTH, MAX_LINES}
use Rattle.com_msg.specs.declared.message.TheConstants.{MAX_SEGMENTS, MAX_SEGMENT_LENGTH, MAX_MESSAGE_LENGTH}
use Rattle.com_events.specs.declared.call.TheConstants.{MAX_KEY_LENGTH}
use Rattle.com_journal.specs.Words.{kind_word, wait_word, switch_word, input_word, end_word, stop_word, frame_word}
use Rattle.com_journal.specs.inner.Choices.{kind_of, wait_of, switch_of, input_of, end_of, stop_of, plain_end_of, frame_of}
use Rattle.com_journal.specs.Lines.{advance_field, part_fields, item_field, end_fields, call_fields}
use Rattle.com_journal.specs.inner.Reading.{behind, word_at, number_in, number_at, chunk_at, text_at, in_area_at, out_area_at, receive_at, count_at, advance_by, advance_of, indicated, indicator_at, part_at, item_at, send_at, switch_output_at, switch_input_at, input_at, switch_at, stop_at, segments_at, stamp_of, stamp_at, are_short, arrive_at, frame_at, reason_at, finish_at, unit_verb, terminal_verb}
use Rattle.com_journal.proofs.Options.{step, option_map-Some, None-of, bytes_eq-true}
use Rattle.com_journal.proofs.Numbers.{IsNumberIn-number_in, number_in-word}
use Rattle.com_journal.proofs.Fields.{behind-Some, HasNoSpace, HasNoSpace-decimal}
use Rattle.com_journal.proofs.Spelled.{spelled, spelled-append}
use Rattle.com_journal.proofs.FieldLaws.{IsEnd, Reads, no_space, word-complete, word-sound, IsWithin, reads_number, reads_chunk, IsTextOf, reads_text, reads_in_area, reads_out_area}
use Rattle.com_journal.proofs.WordLaws.{branch, chooses_kind, chooses_wait, chooses_switch, chooses_input, chooses_end, chooses_stop, chooses_frame}

-- a call of a sort, whose fields are a verb and what was read after it
pub record IsRead (Sort : Call → Type 0) (verb bytes : List ℕ) (call : Call) (rest : List ℕ) : Type 0 where
  pub sort : Sort call
  pub ranges : IsWellFormed call
  pub whole : 32 ∷ (verb ++ bytes) ≡ spelled (call_fields call) rest

abbrev pub IsTerminalCall : Call → Type 0
IsTerminalCall call = IsUnitCall call → ⊥

made : (Sort : Call → Type 0) (verb bytes : List ℕ) (x : Call) (left : List ℕ) (call : Call) (rest : List ℕ) → ◌≡◌ {A = Option (Call × List ℕ)} (Some (x, left)) (Some (call, rest)) → IsRead Sort verb bytes x left → IsRead Sort verb bytes call rest
made Sort verb bytes x left call rest h r =
    subst (λ (p : Call × List ℕ). IsRead Sort verb bytes p.0 p.1) (same_Some (x, left) (call, rest) h) r

sizes : Reads (IsWithin 1 MAX_SIZE) decimal (number_at 1 MAX_SIZE)
sizes = reads_number 1 MAX_SIZE (omega arith)

keys : Reads (IsTextOf 0 MAX_KEY_LENGTH) counted_field (text_at 0 MAX_KEY_LENGTH)
keys = reads_text 0 MAX_KEY_LENGTH (omega arith)

is_key : (key : List ℕ) → IsTextOf 0 MAX_KEY_LENGTH key → IsKey key
is_key key h = (h.text, h.high)

of_key : (key : List ℕ) → IsKey key → IsTextOf 0 MAX_KEY_LENGTH key
of_key key h = record { text = h.0; low = omega arith; high = h.1 }

-- RECEIVE
receive-sound : (bytes : List ℕ) (call : Call) (rest : List ℕ) → receive_at bytes ≡ Some (call, rest) → IsRead IsUnitCall (codes "RECEIVE") bytes call rest
unfolding receive_at
receive-sound bytes call rest h =
    step (word_at bytes) _ (call, rest) h (λ word is h1.
    step (kind_of word.0) _ (call, rest) h1 (λ kind kind_is h2.
    step (number_at 1 MAX_SIZE word.1) _ (call, rest) h2 (λ size size_is h3.
    step (word_at size.1) _ (call, rest) h3 (λ waiting waiting_is h4.
    step (wait_of waiting.0) _ (call, rest) h4 (λ no_data no_data_is h5.
    step (in_area_at waiting.1) _ (call, rest) h5 (λ area area_is h6.
    let a = word-sound bytes word.0 word.1 is in
    let b = chooses_kind.sound word.0 kind kind_is in
    let c = sizes.sound word.1 size.0 size.1 size_is in
    let d = word-sound size.1 waiting.0 waiting.1 waiting_is in
    let e = chooses_wait.sound waiting.0 no_data no_data_is in
    let f = reads_in_area.sound waiting.1 area.0 area.1 area_is in
    made IsUnitCall (codes "RECEIVE") bytes (Receive area.0 kind size.0 no_data) area.1 call rest h6
    record { sort = tt; ranges = (f.0, c.0.0, c.0.1); whole = rw (a, b, c.1, d, e, f.1) refl }))))))

receive-complete : (area : List ℕ) (kind : Kind) (size : ℕ) (no_data : Bool) (rest : List ℕ) → IsWellFormed (Receive area kind size no_data) → IsEnd rest
    → receive_at (spelled (kind_word kind ∷ decimal size ∷ wait_word no_data ∷ counted_field area ∷ []) rest) ≡ Some (Receive area kind size no_data, rest)
unfolding receive_at
receive-complete area kind size no_data rest h end =
    let at_area = spelled (counted_field area ∷ []) rest in
    let at_wait = spelled (wait_word no_data ∷ counted_field area ∷ []) rest in
    let at_size = spelled (decimal size ∷ wait_word no_data ∷ counted_field area ∷ []) rest in
    rw (
      word-complete (kind_word kind) at_size (chooses_kind.plain kind) refl,
      chooses_kind.complete kind,
      sizes.complete size at_wait (h.1, h.2) refl,
      word-complete (wait_word no_data) at_area (chooses_wait.plain no_data) refl,
      chooses_wait.complete no_data,
      reads_in_area.complete area rest h.0 end,
    ) refl

-- COUNT
count-sound : (bytes : List ℕ) (call : Call) (rest : List ℕ) → count_at bytes ≡ Some (call, rest) → IsRead IsUnitCall (codes "COUNT") bytes call rest
unfolding count_at
count-sound bytes call rest h =
    step (in_area_at bytes) _ (call, rest) h (λ area area_is h1.
    let a = reads_in_area.sound bytes area.0 area.1 area_is in
    made IsUnitCall (codes "COUNT") bytes (Count area.0) area.1 call rest h1 record { sort = tt; ranges = a.0; whole = rw a.1 refl })

count-complete : (area rest : List ℕ) → IsInputArea area → IsEnd rest → count_at (spelled (counted_field area ∷ []) rest) ≡ Some (Count area, rest)
unfolding count_at
count-complete area rest h end = rw (reads_in_area.complete area rest h end) refl

-- how far a terminal advances
by-sound : (page : Advance) (lines : ℕ → Advance) (how : List ℕ) (advance : Advance) → advance_by page lines how ≡ Some advance
    → ((how ≡ codes "P") × (page ≡ advance)) ⊎ ((n : ℕ) × (n ≤ MAX_LINES) × (how ≡ decimal n) × (lines n ≡ advance))
unfolding advance_by
by-sound page lines how advance h = elim (cases_Bool (bytes_eq how (codes "P"))) [
  | inl is_page ↦ inl (bytes_eq-true how (codes "P") is_page, same_Some page advance (rw is_page at h))
  | inr is_number ↦
      let (n, read, same) = option_map-Some lines (number_in 0 MAX_LINES how) advance (rw is_number at h) in
      let written = IsNumberIn-number_in 0 MAX_LINES how n read in
      inr (n, written.high, written.digits, same)
]

-- the first byte of a number's digits is a digit
first_is_digit : (n byte : ℕ) → n < 2 ^ 64 → ¬ (IsInRange 48 57 byte) → get_or (decimal n) 0 0 ≡ byte → ⊥
first_is_digit n byte fits other e =
    not_in_digits own_digits (decimal n) byte (digits_decimal own_digits n fits) other 0 (decimal_nonempty n fits) e

no_page : (n : ℕ) → n ≤ MAX_LINES → bytes_eq (decimal n) (codes "P") ≡ false
no_page n h =
    false_from_ne_true _ (λ t. first_is_digit n 80 (omega (arith, h)) (λ r. omega (arith, r)) (ap (λ word. get_or word 0 0) (bytes_eq-true (decimal n) (codes "P") t)))

by-lines : (page : Advance) (lines : ℕ → Advance) (n : ℕ) → n ≤ MAX_LINES → advance_by page lines (decimal n) ≡ Some (lines n)
unfolding advance_by
by-lines page lines n h =
    rw (no_page n h, number_in-word 0 MAX_LINES (decimal n) n (omega arith) record { low = omega arith; high = h; digits = refl }) refl

advance-complete : (advance : Advance) → IsAdvance advance → advance_of (advance_field advance) ≡ Some advance
unfolding advance_of advance_by
advance-complete (Before n) h = by-lines BeforePage Before n h
advance-complete (After n) h = by-lines AfterPage After n h
advance-complete BeforePage h = refl
advance-complete AfterPage h = refl

before-sound : (how : List ℕ) (advance : Advance) → advance_by BeforePage Before how ≡ Some advance → IsAdvance advance × (66 ∷ how ≡ advance_field advance)
before-sound how advance h = elim (by-sound BeforePage Before how advance h) [
  | inl page ↦ rw (← page.1, page.0) (tt, refl)
  | inr number ↦ rw (← number.3, number.2) (number.1, refl)
]

after-sound : (how : List ℕ) (advance : Advance) → advance_by AfterPage After how ≡ Some advance → IsAdvance advance × (65 ∷ how ≡ advance_field advance)
after-sound how advance h = elim (by-sound AfterPage After how advance h) [
  | inl page ↦ rw (← page.1, page.0) (tt, refl)
  | inr number ↦ rw (← number.3, number.2) (number.1, refl)
]

after_side : (side : ℕ) (how : List ℕ) (advance : Advance) → cond {A = Option Advance} (side == 65) (advance_by AfterPage After how) None ≡ Some advance → IsAdvance advance × (side ∷ how ≡ advance_field advance)
after_side side how advance h = elim (cases_Bool (side == 65)) [
  | inl after ↦ rw (eqb-true side 65 after) (after-sound how advance (rw after at h))
  | inr other ↦ absurd (none-some advance (rw other at h))
]

advance-sound : (word : List ℕ) (advance : Advance) → advance_of word ≡ Some advance → IsAdvance advance × (word ≡ advance_field advance)
unfolding advance_of
advance-sound [] advance h = absurd (none-some advance h)
advance-sound (side ∷ how) advance h = elim (cases_Bool (side == 66)) [
  | inl before ↦ rw (eqb-true side 66 before) (before-sound how advance (rw before at h))
  | inr other ↦ after_side side how advance (rw other at h)
]

-- a byte that is no space, before a word without spaces
plain_cons : (byte : ℕ) (word : List ℕ) → (byte == 32) ≡ false → HasNoSpace word → HasNoSpace (byte ∷ word)
plain_cons byte word h plain zero lt = h
plain_cons byte word h plain (suc k) lt = plain k (omega arith)

advance-plain : (advance : Advance) → IsAdvance advance → HasNoSpace (advance_field advance)
advance-plain (Before n) h = plain_cons 66 (decimal n) refl (HasNoSpace-decimal n (omega (arith, h)))
advance-plain (After n) h = plain_cons 65 (decimal n) refl (HasNoSpace-decimal n (omega (arith, h)))
advance-plain BeforePage h = no_space (codes "BP") refl
advance-plain AfterPage h = no_space (codes "AP") refl

-- what SEND sends a part of
indicated-sound : (word : List ℕ) (advance : Advance) (sent : Part) → indicated word advance ≡ Some sent → IsAdvance advance → IsPart sent × (part_fields sent ≡ word ∷ advance_field advance ∷ [])
unfolding indicated
indicated-sound word advance sent h is =
    let P : List ℕ → Type 0 = λ w. IsPart sent × (part_fields sent ≡ w ∷ advance_field advance ∷ []) in
    branch P word (codes "ESI") _ _ (Some sent) h (λ e. rw (← same_Some (part.Esi advance) sent e) (is, refl)) (λ h1.
    branch P word (codes "EMI") _ _ (Some sent) h1 (λ e. rw (← same_Some (part.Emi advance) sent e) (is, refl)) (λ h2.
    branch P word (codes "EGI") _ _ (Some sent) h2 (λ e. rw (← same_Some (part.Egi advance) sent e) (is, refl)) (λ e. absurd (none-some sent e))))

indicator-sound : (word bytes : List ℕ) (part : Part) (rest : List ℕ) → indicator_at word bytes ≡ Some (part, rest) → IsPart part × (32 ∷ (word ++ bytes) ≡ spelled (part_fields part) rest)
unfolding indicator_at
indicator-sound indicator bytes part rest h =
    step (word_at bytes) _ (part, rest) h (λ word is h1.
    step (advance_of word.0) _ (part, rest) h1 (λ advance advance_is h2.
    step (indicated indicator advance) _ (part, rest) h2 (λ found part_is h3.
    let a = word-sound bytes word.0 word.1 is in
    let b = advance-sound word.0 advance advance_is in
    let parts = some_pair_parts found part word.1 rest h3 in
    let c = indicated-sound indicator advance part (part_is ∙ ap Some parts.0) b.0 in
    (c.0, rw (c.1, a, b.1, parts.1) refl))))

part-sound : (bytes : List ℕ) (sent : Part) (rest : List ℕ) → part_at bytes ≡ Some (sent, rest) → IsPart sent × (bytes ≡ spelled (part_fields sent) rest)
unfolding part_at
part-sound bytes sent rest h =
    step (word_at bytes) _ (sent, rest) h (λ word is h1.
    let a = word-sound bytes word.0 word.1 is in
    branch (λ w. bytes ≡ 32 ∷ (w ++ word.1) → IsPart sent × (bytes ≡ spelled (part_fields sent) rest)) word.0 (codes "PART") _ _ (Some (sent, rest)) h1
    (λ e whole.
    let parts = some_pair_parts part.Portion sent word.1 rest e in
    rw (← parts.0) (tt, whole ∙ ap (λ xs. 32 ∷ (codes "PART" ++ xs)) parts.1))
    (λ e whole.
    let b = indicator-sound word.0 word.1 sent rest e in
    (b.0, whole ∙ b.1)) a)

indicator-complete : (word : List ℕ) (advance : Advance) (part : Part) (rest : List ℕ) → IsAdvance advance → IsEnd rest → indicated word advance ≡ Some part
    → indicator_at word (spelled (advance_field advance ∷ []) rest) ≡ Some (part, rest)
unfolding indicator_at
indicator-complete word advance part rest h end e =
    rw (word-complete (advance_field advance) rest (advance-plain advance h) end, advance-complete advance h, e) refl

part-complete : (part : Part) (rest : List ℕ) → IsPart part → IsEnd rest → part_at (spelled (part_fields part) rest) ≡ Some (part, rest)
unfolding part_at indicated
part-complete part.Portion rest h end = rw (word-complete (codes "PART") rest (no_space (codes "PART") refl) end) refl
part-complete (part.Esi advance) rest h end =
    rw (word-complete (codes "ESI") (spelled (advance_field advance ∷ []) rest) (no_space (codes "ESI") refl) refl, indicator-complete (codes "ESI") advance (part.Esi advance) rest h end refl) refl
part-complete (part.Emi advance) rest h end =
    rw (word-complete (codes "EMI") (spelled (advance_field advance ∷ []) rest) (no_space (codes "EMI") refl) refl, indicator-complete (codes "EMI") advance (part.Emi advance) rest h end refl) refl
part-complete (part.Egi advance) rest h end =
    rw (word-complete (codes "EGI") (spelled (advance_field advance ∷ []) rest) (no_space (codes "EGI") refl) refl, indicator-complete (codes "EGI") advance (part.Egi advance) rest h end refl) refl

-- what SEND sends
items : Reads (IsTextOf 1 MAX_ITEM_LENGTH) counted_field (text_at 1 MAX_ITEM_LENGTH)
items = reads_text 1 MAX_ITEM_LENGTH (omega arith)

no_hyphen : (item rest : List ℕ) → IsTextOf 1 MAX_ITEM_LENGTH item → behind (codes " -") (32 ∷ (counted_field item ++ rest)) ≡ None
no_hyphen item rest h =
    let n = length item in
    let fits : n < 2 ^ 64 = omega (arith, h.high) in
    let first : get_or (counted_field item ++ rest) 0 0 ≡ get_or (decimal n) 0 0 =
    get_or_append_left (counted_field item) rest 0 0 (omega (arith, length-append (decimal n) (58 ∷ item), decimal_nonempty n fits)) ∙ get_or_append_left (decimal n) (58 ∷ item) 0 0 (decimal_nonempty n fits) in
    sym (None-of _ (λ left e. first_is_digit n 45 fits (λ r. omega (arith, r)) (sym first ∙ ap (λ xs. get_or xs 1 0) (behind-Some (codes " -") (32 ∷ (counted_field item ++ rest)) left e))))

item_cases : (bytes : List ℕ) (item : Option (List ℕ)) (rest : List ℕ) (hyphen : Option (List ℕ)) → behind (codes " -") bytes ≡ hyphen → item_at bytes ≡ Some (item, rest)
    → IfSome item IsItem × (bytes ≡ 32 ∷ (item_field item ++ rest))
unfolding item_at
item_cases bytes item rest None e h =
    let (text, read, parts) = option_map-Some (λ (text : List ℕ × List ℕ). (Some text.0, text.1)) (text_at 1 MAX_ITEM_LENGTH bytes) (item, rest) (rw e at h) in
    let a = items.sound bytes text.0 text.1 read in
    let whole : IfSome (Some text.0) IsItem × (bytes ≡ 32 ∷ (item_field (Some text.0) ++ text.1)) = ((a.0.text, a.0.low, a.0.high), a.1) in
    subst (λ (x : Option (List ℕ) × List ℕ). IfSome x.0 IsItem × (bytes ≡ 32 ∷ (item_field x.0 ++ x.1))) parts whole
item_cases bytes item rest (Some left) e h =
    let parts = same_Some (None, left) (item, rest) (rw e at h) in
    let whole : IfSome None IsItem × (bytes ≡ 32 ∷ (item_field None ++ left)) = (tt, behind-Some (codes " -") bytes left e) in
    subst (λ (x : Option (List ℕ) × List ℕ). IfSome x.0 IsItem × (bytes ≡ 32 ∷ (item_field x.0 ++ x.1))) parts whole

item-sound : (bytes : List ℕ) (item : Option (List ℕ)) (rest : List ℕ) → item_at bytes ≡ Some (item, rest) → IfSome item IsItem × (bytes ≡ 32 ∷ (item_field item ++ rest))
unfolding item_at
item-sound bytes item rest h = item_cases bytes item rest (behind (codes " -") bytes) refl h

no_item : (bytes : List ℕ) → behind (codes " -") bytes ≡ None → item_at bytes ≡ option_map (λ (text : List ℕ × List ℕ). (Some text.0, text.1)) (text_at 1 MAX_ITEM_LENGTH bytes)
unfolding item_at
no_item bytes h = rw h refl

item-complete : (item : Option (List ℕ)) (rest : List ℕ) → IfSome item IsItem → IsEnd rest → item_at (32 ∷ (item_field item ++ rest)) ≡ Some (item, rest)
unfolding item_at
item-complete None rest h end = refl
item-complete (Some item) rest h end =
    let is : IsTextOf 1 MAX_ITEM_LENGTH item = record { text = h.0; low = h.1; high = h.2 } in
    no_item (32 ∷ (counted_field item ++ rest)) (no_hyphen item rest is) ∙ rw (items.complete item rest is end) refl

-- SEND
send-sound : (bytes : List ℕ) (call : Call) (rest : List ℕ) → send_at bytes ≡ Some (call, rest) → IsRead IsUnitCall (codes "SEND") bytes call rest
unfolding send_at
send-sound bytes call rest h =
    step (part_at bytes) _ (call, rest) h (λ part part_is h1.
    step (item_at part.1) _ (call, rest) h1 (λ item item_is h2.
    step (out_area_at item.1) _ (call, rest) h2 (λ area area_is h3.
    let a = part-sound bytes part.0 part.1 part_is in
    let b = item-sound part.1 item.0 item.1 item_is in
    let c = reads_out_area.sound item.1 area.0 area.1 area_is in
    let joined = spelled-append (part_fields part.0) (item_field item.0 ∷ counted_field area.0 ∷ []) area.1 in
    made IsUnitCall (codes "SEND") bytes (Send area.0 part.0 item.0) area.1 call rest h3
    record { sort = tt; ranges = (c.0, a.0, b.0); whole = rw joined (rw (a.1, b.1, c.1) refl) })))

send-complete : (area : List ℕ) (part : Part) (item : Option (List ℕ)) (rest : List ℕ) → IsWellFormed (Send area part item) → IsEnd rest
    → send_at (spelled (part_fields part ++ item_field item ∷ counted_field area ∷ []) rest) ≡ Some (Send area part item, rest)
unfolding send_at
send-complete area part item rest h end =
    let at_area = spelled (counted_field area ∷ []) rest in
    let at_item = spelled (item_field item ∷ counted_field area ∷ []) rest in
    rw (
      spelled-append (part_fields part) (item_field item ∷ counted_field area ∷ []) rest,
      part-complete part at_item h.1 refl,
      item-complete item at_area h.2 refl,
      reads_out_area.complete area rest h.0 end,
    ) refl

-- ENABLE and DISABLE
output-sound : (on : Bool) (bytes : List ℕ) (call : Call) (rest : List ℕ) → switch_output_at on bytes ≡ Some (call, rest)
    → IsUnitCall call × IsWellFormed call × (32 ∷ (switch_word on ++ 32 ∷ (codes "OUTPUT" ++ bytes)) ≡ spelled (call_fields call) rest)
unfolding switch_output_at
output-sound on bytes call rest h =
    step (text_at 0 MAX_KEY_LENGTH bytes) _ (call, rest) h (λ key key_is h1.
    step (out_area_at key.1) _ (call, rest) h1 (λ area area_is h2.
    let a = keys.sound bytes key.0 key.1 key_is in
    let b = reads_out_area.sound key.1 area.0 area.1 area_is in
    let whole : IsUnitCall (SwitchOutput on area.0 key.0) × IsWellFormed (SwitchOutput on area.0 key.0) × (32 ∷ (switch_word on ++ 32 ∷ (codes "OUTPUT" ++ bytes)) ≡ spelled (call_fields (SwitchOutput on area.0 key.0)) area.1) =
    (tt, (b.0, is_key key.0 a.0), rw (a.1, b.1) refl) in
    subst (λ (x : Call × List ℕ). IsUnitCall x.0 × IsWellFormed x.0 × (32 ∷ (switch_word on ++ 32 ∷ (codes "OUTPUT" ++ bytes)) ≡ spelled (call_fields x.0) x.1)) (same_Some (SwitchOutput on area.0 key.0, area.1) (call, rest) h2) whole))

input-sound : (on : Bool) (word bytes : List ℕ) (call : Call) (rest : List ℕ) → input_at on word bytes ≡ Some (call, rest)
    → IsUnitCall call × IsWellFormed call × (32 ∷ (switch_word on ++ 32 ∷ (word ++ bytes)) ≡ spelled (call_fields call) rest)
unfolding input_at switch_input_at
input-sound on word bytes call rest h =
    step (input_of word) _ (call, rest) h (λ terminal terminal_is h1.
    step (text_at 0 MAX_KEY_LENGTH bytes) _ (call, rest) h1 (λ key key_is h2.
    step (in_area_at key.1) _ (call, rest) h2 (λ area area_is h3.
    let a = keys.sound bytes key.0 key.1 key_is in
    let b = reads_in_area.sound key.1 area.0 area.1 area_is in
    let c = chooses_input.sound word terminal terminal_is in
    let whole : IsUnitCall (SwitchInput on terminal area.0 key.0) × IsWellFormed (SwitchInput on terminal area.0 key.0) × (32 ∷ (switch_word on ++ 32 ∷ (word ++ bytes)) ≡ spelled (call_fields (SwitchInput on terminal area.0 key.0)) area.1) =
    (tt, (b.0, is_key key.0 a.0), rw (a.1, b.1, c) refl) in
    subst (λ (x : Call × List ℕ). IsUnitCall x.0 × IsWellFormed x.0 × (32 ∷ (switch_word on ++ 32 ∷ (word ++ bytes)) ≡ spelled (call_fields x.0) x.1)) (same_Some (SwitchInput on terminal area.0 key.0, area.1) (call, rest) h3) whole)))

switch-sound : (on : Bool) (bytes : List ℕ) (call : Call) (rest : List ℕ) → switch_at on bytes ≡ Some (call, rest) → IsRead IsUnitCall (switch_word on) bytes call rest
unfolding switch_at
switch-sound on bytes call rest h =
    step (word_at bytes) _ (call, rest) h (λ word is h1.
    let a = word-sound bytes word.0 word.1 is in
    let found = branch (λ w. IsUnitCall call × IsWellFormed call × (32 ∷ (switch_word on ++ 32 ∷ (w ++ word.1)) ≡ spelled (call_fields call) rest)) word.0 (codes "OUTPUT") _ _ (Some (call, rest)) h1
    (λ e. output-sound on word.1 call rest e) (λ e. input-sound on word.0 word.1 call rest e) in
    record { sort = found.0; ranges = found.1; whole = rw a found.2 })

output-complete : (on : Bool) (area key rest : List ℕ) → IsWellFormed (SwitchOutput on area key) → IsEnd rest
    → switch_at on (spelled (codes "OUTPUT" ∷ counted_field key ∷ counted_field area ∷ []) rest) ≡ Some (SwitchOutput on area key, rest)
unfolding switch_at switch_output_at
output-complete on area key rest h end =
    let at_area = spelled (counted_field area ∷ []) rest in
    let at_key = spelled (counted_field key ∷ counted_field area ∷ []) rest in
    rw (
      word-complete (codes "OUTPUT") at_key (no_space (codes "OUTPUT") refl) refl,
      keys.complete key at_area (of_key key h.1) refl,
      reads_out_area.complete area rest h.0 end,
    ) refl

no_output : (terminal : Bool) → bytes_eq (input_word terminal) (codes "OUTPUT") ≡ false
no_output true = refl
no_output false = refl

input-complete : (on terminal : Bool) (area key rest : List ℕ) → IsWellFormed (SwitchInput on terminal area key) → IsEnd rest
    → switch_at on (spelled (input_word terminal ∷ counted_field key ∷ counted_field area ∷ []) rest) ≡ Some (SwitchInput on terminal area key, rest)
unfolding switch_at input_at switch_input_at
input-complete on terminal area key rest h end =
    let at_area = spelled (counted_field area ∷ []) rest in
    let at_key = spelled (counted_field key ∷ counted_field area ∷ []) rest in
    rw (
      word-complete (input_word terminal) at_key (chooses_input.plain terminal) refl,
      no_output terminal,
      chooses_input.complete terminal,
      keys.complete key at_area (of_key key h.1) refl,
      reads_in_area.complete area rest h.0 end,
    ) refl

-- STOP
stop-sound : (bytes : List ℕ) (call : Call) (rest : List ℕ) → stop_at bytes ≡ Some (call, rest) → IsRead IsUnitCall (codes "STOP") bytes call rest
unfolding stop_at
stop-sound bytes call rest h =
    step (word_at bytes) _ (call, rest) h (λ word is h1.
    step (stop_of word.0) _ (call, rest) h1 (λ reason reason_is h2.
    let a = word-sound bytes word.0 word.1 is in
    let b = chooses_stop.sound word.0 reason reason_is in
    made IsUnitCall (codes "STOP") bytes (Stop reason) word.1 call rest h2 record { sort = tt; ranges = tt; whole = rw (a, b) refl }))

stop-complete : (reason : StopReason) (rest : List ℕ) → IsEnd rest → stop_at (spelled (stop_word reason ∷ []) rest) ≡ Some (Stop reason, rest)
unfolding stop_at
stop-complete reason rest end =
    rw (word-complete (stop_word reason) rest (chooses_stop.plain reason) end, chooses_stop.complete reason) refl

-- ARRIVE
segment_texts : Reads (IsTextOf 0 MAX_SEGMENT_LENGTH) counted_field (text_at 0 MAX_SEGMENT_LENGTH)
segment_texts = reads_text 0 MAX_SEGMENT_LENGTH (omega arith)

-- so many segments
record HasSegments (n : ℕ) (bytes : List ℕ) (segments : List (List ℕ)) (rest : List ℕ) : Type 0 where
  many : length segments ≡ n
  each : AllByRecursion (IsTextOf 0 MAX_SEGMENT_LENGTH) segments
  whole : bytes ≡ spelled (map counted_field segments) rest

segments-sound : (n : ℕ) (bytes : List ℕ) (segments : List (List ℕ)) (rest : List ℕ) → segments_at n bytes ≡ Some (segments, rest) → HasSegments n bytes segments rest
unfolding segments_at
segments-sound zero bytes segments rest h =
    subst (λ (x : List (List ℕ) × List ℕ). HasSegments zero bytes x.0 x.1) (same_Some ([], bytes) (segments, rest) h) record { many = refl; each = tt; whole = refl }
segments-sound (suc n) bytes segments rest h =
    step (text_at 0 MAX_SEGMENT_LENGTH bytes) _ (segments, rest) h (λ first first_is h1.
    step (segments_at n first.1) _ (segments, rest) h1 (λ others others_are h2.
    let a = segment_texts.sound bytes first.0 first.1 first_is in
    let b = segments-sound n first.1 others.0 others.1 others_are in
    let all : HasSegments (suc n) bytes (first.0 ∷ others.0) others.1 = record {
      many = ap suc b.many;
      each = (a.0, b.each);
      whole = a.1 ∙ ap (λ xs. 32 ∷ (counted_field first.0 ++ xs)) b.whole;
    } in
    subst (λ (x : List (List ℕ) × List ℕ). HasSegments (suc n) bytes x.0 x.1) (same_Some (first.0 ∷ others.0, others.1) (segments, rest) h2) all))

pub spelled_end : (fields : List (List ℕ)) (rest : List ℕ) → IsEnd rest → IsEnd (spelled fields rest)
spelled_end [] rest end = end
spelled_end (field ∷ fields) rest end = refl

segments-complete : (segments : List (List ℕ)) (rest : List ℕ) → AllByRecursion (IsTextOf 0 MAX_SEGMENT_LENGTH) segments → IsEnd rest → segments_at (length segments) (spelled (map counted_field segments) rest) ≡ Some (segments, rest)
unfolding segments_at
segments-complete [] rest h end = refl
segments-complete (segment ∷ segments) rest h end =
    let behind_it = spelled (map counted_field segments) rest in
    rw (segment_texts.complete segment behind_it h.0 (spelled_end (map counted_field segments) rest end), segments-complete segments rest h.1 end) refl

length-moment : (stamp : Moment) → IsMoment stamp → (length stamp.date ≡ 6) × (length stamp.time ≡ 8)
length-moment stamp h = grind (arith, nat_tests)

stamp-sound : (bytes : List ℕ) (stamp : Moment) (rest : List ℕ) → stamp_at bytes ≡ Some (stamp, rest) → IsMoment stamp × (bytes ≡ spelled (stamp.date ∷ stamp.time ∷ []) rest)
unfolding stamp_at stamp_of
stamp-sound bytes stamp rest h =
    step (chunk_at 6 bytes) _ (stamp, rest) h (λ date date_is h1.
    step (chunk_at 8 date.1) _ (stamp, rest) h1 (λ time time_is h2.
    step (stamp_of date.0 time.0) _ (stamp, rest) h2 (λ found stamp_is h3.
    let a = (reads_chunk 6).sound bytes date.0 date.1 date_is in
    let b = (reads_chunk 8).sound date.1 time.0 time.1 time_is in
    let p = cond_some (is_moment (moment date.0 time.0)) (moment date.0 time.0) found stamp_is in
    let parts = some_pair_parts found stamp time.1 rest h3 in
    rw (← parts.0, ← p.1) (p.0, rw (a.1, b.1, parts.1) refl))))

stamp-complete : (stamp : Moment) (rest : List ℕ) → IsMoment stamp → IsEnd rest → stamp_at (spelled (stamp.date ∷ stamp.time ∷ []) rest) ≡ Some (stamp, rest)
unfolding stamp_at stamp_of
stamp-complete stamp rest h end =
    let lengths = length-moment stamp h in
    rw ((reads_chunk 6).complete stamp.date (spelled (stamp.time ∷ []) rest) lengths.0 refl, (reads_chunk 8).complete stamp.time rest lengths.1 end, h) refl

counts : Reads (IsWithin 1 MAX_SEGMENTS) decimal (number_at 1 MAX_SEGMENTS)
counts = reads_number 1 MAX_SEGMENTS (omega arith)

are_short-true : (segments : List (List ℕ)) → are_short segments ≡ true → length (concat segments) ≤ MAX_MESSAGE_LENGTH
are_short-true segments h = grind (arith, nat_tests)

short-are_short : (segments : List (List ℕ)) → length (concat segments) ≤ MAX_MESSAGE_LENGTH → are_short segments ≡ true
short-are_short segments h = grind (arith, nat_tests)

-- the segments of a message within the limits are texts of no more characters than one may have
texts_of : (segments : List (List ℕ)) → AllByRecursion (IsTextOf 0 MAX_SEGMENT_LENGTH) segments → AllByRecursion IsText segments
texts_of [] h = tt
texts_of (segment ∷ segments) h = (h.0.text, texts_of segments h.1)

lengths_of : (segments : List (List ℕ)) → AllByRecursion (IsTextOf 0 MAX_SEGMENT_LENGTH) segments → AllByRecursion (λ segment. length segment ≤ MAX_SEGMENT_LENGTH) segments
lengths_of [] h = tt
lengths_of (segment ∷ segments) h = (h.0.high, lengths_of segments h.1)

pub segments_of : (segments : List (List ℕ)) → AllByRecursion IsText segments → All (λ segment. length segment ≤ MAX_SEGMENT_LENGTH) segments → AllByRecursion (IsTextOf 0 MAX_SEGMENT_LENGTH) segments
segments_of [] h k = tt
segments_of (segment ∷ segments) h k = (
  record { text = h.0; low = omega arith; high = All-head (λ s. length s ≤ MAX_SEGMENT_LENGTH) segment segments k },
  segments_of segments h.1 (All-tail (λ s. length s ≤ MAX_SEGMENT_LENGTH) segment segments k),
)

message_of : (segments : List (List ℕ)) (end : End) → AllByRecursion (IsTextOf 0 MAX_SEGMENT_LENGTH) segments → 1 ≤ length segments → length segments ≤ MAX_SEGMENTS → length (concat segments) ≤ MAX_MESSAGE_LENGTH
    → IsTerminalMessage (record { segments = segments; end = end })
message_of segments end each some few short = record {
  texts = texts_of segments each;
  limits = record {
    not_empty = some;
    few = few;
    short = All-from_recursion (λ segment. length segment ≤ MAX_SEGMENT_LENGTH) segments (lengths_of segments each);
    characters = short;
  };
}

arrive-sound : (bytes : List ℕ) (call : Call) (rest : List ℕ) → arrive_at bytes ≡ Some (call, rest) → IsRead IsTerminalCall (codes "ARRIVE") bytes call rest
unfolding arrive_at
arrive-sound bytes call rest h =
    step (stamp_at bytes) _ (call, rest) h (λ stamp stamp_is h1.
    step (word_at stamp.1) _ (call, rest) h1 (λ word is h2.
    step (end_of word.0) _ (call, rest) h2 (λ end end_is h3.
    step (number_at 1 MAX_SEGMENTS word.1) _ (call, rest) h3 (λ count count_is h4.
    step (segments_at count.0 count.1) _ (call, rest) h4 (λ segments segments_are h5.
    let a = stamp-sound bytes stamp.0 stamp.1 stamp_is in
    let b = word-sound stamp.1 word.0 word.1 is in
    let c = chooses_end.sound word.0 end end_is in
    let d = counts.sound word.1 count.0 count.1 count_is in
    let e = segments-sound count.0 count.1 segments.0 segments.1 segments_are in
    let message : RawMessage = record { segments = segments.0; end = end } in
    let p = cond_some (are_short segments.0) (Arrive stamp.0 message, segments.1) (call, rest) h5 in
    let all : IsRead IsTerminalCall (codes "ARRIVE") bytes (Arrive stamp.0 message) segments.1 = record {
      sort = λ none. none;
      ranges = (a.0, message_of segments.0 end e.each (rw e.many d.0.0) (rw e.many d.0.1) (are_short-true segments.0 p.0));
      whole = rw (a.1, b, c, d.1, e.whole, e.many) refl;
    } in
    subst (λ (x : Call × List ℕ). IsRead IsTerminalCall (codes "ARRIVE") bytes x.0 x.1) p.1 all)))))

arrive-complete : (stamp : Moment) (segments : List (List ℕ)) (end : End) (rest : List ℕ) → IsMoment stamp → IsTerminalMessage (record { segments = segments; end = end }) → IsEnd rest
    → arrive_at (spelled (stamp.date ∷ stamp.time ∷ end_word end ∷ decimal (length segments) ∷ map counted_field segments) rest) ≡ Some (Arrive stamp (record { segments = segments; end = end }), rest)
unfolding arrive_at
arrive-complete stamp segments end rest h m ends =
    let fields = map counted_field segments in
    let at_segments = spelled fields rest in
    let at_count = spelled (decimal (length segments) ∷ fields) rest in
    let at_end = spelled (end_word end ∷ decimal (length segments) ∷ fields) rest in
    rw (
      stamp-complete stamp at_end h refl,
      word-complete (end_word end) at_count (chooses_end.plain end) refl,
      chooses_end.complete end,
      counts.complete (length segments) at_segments (m.limits.not_empty, m.limits.few) (spelled_end fields rest ends),
      segments-complete segments rest (segments_of segments m.texts m.limits.short) ends,
      short-are_short segments m.limits.characters,
    ) refl

-- END
places : Reads (IsWithin 0 (10 ^ 18 - 1)) decimal (number_at 0 (10 ^ 18 - 1))
places = reads_number 0 (10 ^ 18 - 1) (omega arith)

frame-sound : (bytes : List ℕ) (reason : EndReason) (rest : List ℕ) → frame_at bytes ≡ Some (reason, rest) → IsEndReason reason × (32 ∷ (codes "FRAME" ++ bytes) ≡ spelled (end_fields reason) rest)
unfolding frame_at
frame-sound bytes reason rest h =
    step (word_at bytes) _ (reason, rest) h (λ word is h1.
    step (frame_of word.0) _ (reason, rest) h1 (λ kind kind_is h2.
    step (number_at 0 (10 ^ 18 - 1) word.1) _ (reason, rest) h2 (λ at at_is h3.
    let a = word-sound bytes word.0 word.1 is in
    let b = chooses_frame.sound word.0 kind kind_is in
    let c = places.sound word.1 at.0 at.1 at_is in
    let found : EndReason = finish.Frame (record { at = at.0; kind = kind }) in
    let within : at.0 < 10 ^ 18 = omega (arith, c.0.1) in
    let all : IsEndReason found × (32 ∷ (codes "FRAME" ++ bytes) ≡ spelled (end_fields found) at.1) = (within, rw (a, b, c.1) refl) in
    subst (λ (x : EndReason × List ℕ). IsEndReason x.0 × (32 ∷ (codes "FRAME" ++ bytes) ≡ spelled (end_fields x.0) x.1)) (same_Some (found, at.1) (reason, rest) h3) all)))

-- the word says all of the reason
abbrev SaysAll : EndReason → List ℕ → Type 0
SaysAll reason word = IsEndReason reason × (end_fields reason ≡ word ∷ [])

plain-sound : (word : List ℕ) (reason : EndReason) → plain_end_of word ≡ Some reason → SaysAll reason word
unfolding plain_end_of
plain-sound word reason h =
    branch (SaysAll reason) word (codes "END") _ _ (Some reason) h (λ e. rw (← same_Some finish.End reason e) (tt, refl)) (λ h1.
    branch (SaysAll reason) word (codes "FAULT") _ _ (Some reason) h1 (λ e. rw (← same_Some finish.Fault reason e) (tt, refl)) (λ h2.
    branch (SaysAll reason) word (codes "LONG") _ _ (Some reason) h2 (λ e. rw (← same_Some finish.Long reason e) (tt, refl)) (λ h3.
    branch (SaysAll reason) word (codes "IDLE") _ _ (Some reason) h3 (λ e. rw (← same_Some finish.Idle reason e) (tt, refl)) (λ e. absurd (none-some reason e)))))

reason-sound : (bytes : List ℕ) (reason : EndReason) (rest : List ℕ) → reason_at bytes ≡ Some (reason, rest) → IsEndReason reason × (bytes ≡ spelled (end_fields reason) rest)
unfolding reason_at
reason-sound bytes reason rest h =
    step (word_at bytes) _ (reason, rest) h (λ word is h1.
    let a = word-sound bytes word.0 word.1 is in
    branch (λ w. bytes ≡ 32 ∷ (w ++ word.1) → IsEndReason reason × (bytes ≡ spelled (end_fields reason) rest)) word.0 (codes "FRAME") _ _ (Some (reason, rest)) h1
    (λ e whole.
    let b = frame-sound word.1 reason rest e in
    (b.0, whole ∙ b.1))
    (λ e whole.
    let (found, found_is, parts) = option_map-Some (λ (reason : EndReason). (reason, word.1)) (plain_end_of word.0) (reason, rest) e in
    let b = plain-sound word.0 found found_is in
    let all : IsEndReason found × (bytes ≡ spelled (end_fields found) word.1) = (b.0, rw b.1 whole) in
    subst (λ (x : EndReason × List ℕ). IsEndReason x.0 × (bytes ≡ spelled (end_fields x.0) x.1)) parts all) a)

finish-sound : (bytes : List ℕ) (call : Call) (rest : List ℕ) → finish_at bytes ≡ Some (call, rest) → IsRead IsTerminalCall (codes "END") bytes call rest
unfolding finish_at
finish-sound bytes call rest h =
    step (reason_at bytes) _ (call, rest) h (λ reason reason_is h1.
    let a = reason-sound bytes reason.0 reason.1 reason_is in
    made IsTerminalCall (codes "END") bytes (Finish reason.0) reason.1 call rest h1 record { sort = λ none. none; ranges = a.0; whole = ap (λ xs. 32 ∷ (codes "END" ++ xs)) a.1 })

frame-complete : (at : ℕ) (kind : FrameKind) (rest : List ℕ) → at < 10 ^ 18 → IsEnd rest → frame_at (spelled (frame_word kind ∷ decimal at ∷ []) rest) ≡ Some (finish.Frame (record { at = at; kind = kind }), rest)
unfolding frame_at
frame-complete at kind rest h end =
    rw (
      word-complete (frame_word kind) (spelled (decimal at ∷ []) rest) (chooses_frame.plain kind) refl,
      chooses_frame.complete kind,
      places.complete at rest (omega arith, omega (arith, h)) end,
    ) refl

reason-complete : (reason : EndReason) (rest : List ℕ) → IsEndReason reason → IsEnd rest → reason_at (spelled (end_fields reason) rest) ≡ Some (reason, rest)
unfolding reason_at plain_end_of
reason-complete finish.End rest h end = rw (word-complete (codes "END") rest (no_space (codes "END") refl) end) refl
reason-complete finish.Fault rest h end = rw (word-complete (codes "FAULT") rest (no_space (codes "FAULT") refl) end) refl
reason-complete finish.Long rest h end = rw (word-complete (codes "LONG") rest (no_space (codes "LONG") refl) end) refl
reason-complete finish.Idle rest h end = rw (word-complete (codes "IDLE") rest (no_space (codes "IDLE") refl) end) refl
reason-complete (finish.Frame fault) rest h end =
    rw (
      word-complete (codes "FRAME") (spelled (frame_word fault.kind ∷ decimal fault.at ∷ []) rest) (no_space (codes "FRAME") refl) refl,
      frame-complete fault.at fault.kind rest h end,
    ) refl

finish-complete : (reason : EndReason) (rest : List ℕ) → IsEndReason reason → IsEnd rest → finish_at (spelled (end_fields reason) rest) ≡ Some (Finish reason, rest)
unfolding finish_at
finish-complete reason rest h end = rw (reason-complete reason rest h end) refl

-- what is read after a unit's verb, and after a terminal's
pub unit-sound : (verb bytes : List ℕ) (call : Call) (rest : List ℕ) → unit_verb verb bytes ≡ Some (call, rest) → IsRead IsUnitCall verb bytes call rest
unfolding unit_verb
unit-sound verb bytes call rest h =
    let P : List ℕ → Type 0 = λ v. IsRead IsUnitCall v bytes call rest in
    branch P verb (codes "START") _ _ (Some (call, rest)) h (λ e. made IsUnitCall (codes "START") bytes Start bytes call rest e record { sort = tt; ranges = tt; whole = refl }) (λ h1.
    branch P verb (codes "RECEIVE") _ _ (Some (call, rest)) h1 (λ e. receive-sound bytes call rest e) (λ h2.
    branch P verb (codes "COUNT") _ _ (Some (call, rest)) h2 (λ e. count-sound bytes call rest e) (λ h3.
    branch P verb (codes "SEND") _ _ (Some (call, rest)) h3 (λ e. send-sound bytes call rest e) (λ h4.
    branch P verb (codes "STOP") _ _ (Some (call, rest)) h4 (λ e. stop-sound bytes call rest e) (λ h5.
    step (switch_of verb) _ (call, rest) h5 (λ on on_is h6.
    rw (chooses_switch.sound verb on on_is) (switch-sound on bytes call rest h6)))))))

pub terminal-sound : (verb bytes : List ℕ) (call : Call) (rest : List ℕ) → terminal_verb verb bytes ≡ Some (call, rest) → IsRead IsTerminalCall verb bytes call rest
unfolding terminal_verb
terminal-sound verb bytes call rest h =
    let P : List ℕ → Type 0 = λ v. IsRead IsTerminalCall v bytes call rest in
    branch P verb (codes "ARRIVE") _ _ (Some (call, rest)) h (λ e. arrive-sound bytes call rest e) (λ h1.
    branch P verb (codes "HELD") _ _ (Some (call, rest)) h1 (λ e. made IsTerminalCall (codes "HELD") bytes Held bytes call rest e record { sort = λ none. none; ranges = tt; whole = refl }) (λ h2.
    branch P verb (codes "END") _ _ (Some (call, rest)) h2 (λ e. finish-sound bytes call rest e) (λ e. absurd (none-some (call, rest) e))))

-- the fields of a call are its verb, and what is read as the call after it
pub record IsReadBack (read : List ℕ → List ℕ → Option (Call × List ℕ)) (call : Call) (rest : List ℕ) : Type 0 where
  pub verb : List ℕ
  pub left : List ℕ
  pub word : word_at (spelled (call_fields call) rest) ≡ Some (verb, left)
  pub found : read verb left ≡ Some (call, rest)

-- a verb without spaces before the other fields
opened : (read : List ℕ → List ℕ → Option (Call × List ℕ)) (call : Call) (rest verb : List ℕ) (fields : List (List ℕ)) → call_fields call ≡ verb ∷ fields → HasNoSpace verb → IsEnd rest
    → read verb (spelled fields rest) ≡ Some (call, rest) → IsReadBack read call rest
opened read call rest verb fields e plain end found = record {
  verb = verb;
  left = spelled fields rest;
  word = ap (λ all. word_at (spelled all rest)) e ∙ word-complete verb (spelled fields rest) plain (spelled_end fields rest end);
  found = found;
}

no_other_verb : (on : Bool) (bytes : List ℕ) → unit_verb (switch_word on) bytes ≡ switch_at on bytes
unfolding unit_verb switch_of
no_other_verb true bytes = refl
no_other_verb false bytes = refl

pub unit-complete : (call : Call) (rest : List ℕ) → IsUnitCall call → IsWellFormed call → IsEnd rest → IsReadBack unit_verb call rest
unfolding unit_verb
unit-complete Start rest s h end = opened unit_verb Start rest (codes "START") [] refl (no_space (codes "START") refl) end refl
unit-complete (Receive area kind size no_data) rest s h end =
    opened unit_verb (Receive area kind size no_data) rest (codes "RECEIVE") (kind_word kind ∷ decimal size ∷ wait_word no_data ∷ counted_field area ∷ []) refl (no_space (codes "RECEIVE") refl) end (receive-complete area kind size no_data rest h end)
unit-complete (Count area) rest s h end =
    opened unit_verb (Count area) rest (codes "COUNT") (counted_field area ∷ []) refl (no_space (codes "COUNT") refl) end (count-complete area rest h end)
unit-complete (Send area part item) rest s h end =
    opened unit_verb (Send area part item) rest (codes "SEND") (part_fields part ++ item_field item ∷ counted_field area ∷ []) refl (no_space (codes "SEND") refl) end (send-complete area part item rest h end)
unit-complete (SwitchInput on terminal area key) rest s h end =
    opened unit_verb (SwitchInput on terminal area key) rest (switch_word on) (input_word terminal ∷ counted_field key ∷ counted_field area ∷ []) refl (chooses_switch.plain on) end (no_other_verb on _ ∙ input-complete on terminal area key rest h end)
unit-complete (SwitchOutput on area key) rest s h end =
    opened unit_verb (SwitchOutput on area key) rest (switch_word on) (codes "OUTPUT" ∷ counted_field key ∷ counted_field area ∷ []) refl (chooses_switch.plain on) end (no_other_verb on _ ∙ output-complete on area key rest h end)
unit-complete (Stop reason) rest s h end =
    opened unit_verb (Stop reason) rest (codes "STOP") (stop_word reason ∷ []) refl (no_space (codes "STOP") refl) end (stop-complete reason rest end)
unit-complete (Arrive stamp message) rest s h end = absurd s
unit-complete Held rest s h end = absurd s
unit-complete (Finish reason) rest s h end = absurd s

pub terminal-complete : (call : Call) (rest : List ℕ) → IsTerminalCall call → IsWellFormed call → IsEnd rest → IsReadBack terminal_verb call rest
unfolding terminal_verb
terminal-complete (Arrive stamp message) rest s h end =
    opened terminal_verb (Arrive stamp message) rest (codes "ARRIVE") (stamp.date ∷ stamp.time ∷ end_word message.end ∷ decimal (length message.segments) ∷ map counted_field message.segments) refl (no_space (codes "ARRIVE") refl) end
    (arrive-complete stamp message.segments message.end rest h.0 h.1 end)
terminal-complete Held rest s h end = opened terminal_verb Held rest (codes "HELD") [] refl (no_space (codes "HELD") refl) end refl
terminal-complete (Finish reason) rest s h end =
    opened terminal_verb (Finish reason) rest (codes "END") (end_fields reason) refl (no_space (codes "END") refl) end (finish-complete reason rest h end)
terminal-complete Start rest s h end = absurd (s tt)
terminal-complete (Receive area kind size no_data) rest s h end = absurd (s tt)
terminal-complete (Count area) rest s h end = absurd (s tt)
terminal-complete (Send area part item) rest s h end = absurd (s tt)
terminal-complete (SwitchInput on terminal area key) rest s h end = absurd (s tt)
terminal-complete (SwitchOutput on area key) rest s h end = absurd (s tt)
terminal-complete (Stop reason) rest s h end = absurd (s tt)
