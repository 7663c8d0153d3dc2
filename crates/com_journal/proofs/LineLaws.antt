-- Each line is read as its entry, and each call's text as its call, and nothing else is.
use Rattle.std.proofs.Common.{◌≡◌, ℕ, None, Some, Option, List, [], ◌∷◌, ◌++◌, length, refl, sym, ap, ◌∙◌, subst, inl, inr, cond, append_assoc, arith}
use Rattle.std.specs.Prelude.{codes, decimal, ◌==◌}
use Rattle.std.proofs.lemmas.Bool.{cases_Bool, eqb-true}
use Rattle.std.proofs.lemmas.Option.{cond_some, none-some, same_Some, some_pair_parts}
use Rattle.com_text.specs.Counted.{counted_field}
use Rattle.com_text.specs.Name.{IsName, is_name}
use Rattle.com_events.specs.declared.call.Party.{Party}
use Rattle.com_events.specs.declared.call.Party.TheVariants as party
use Rattle.com_events.specs.declared.call.EndReason.{EndReason}
use Rattle.com_events.specs.declared.call.EndReason.TheVariants as finish
use Rattle.com_events.specs.declared.call.Call.{Call}
use Rattle.com_events.specs.declared.reply.Reply.{Reply}
use Rattle.com_events.specs.declared.reply.Reply.TheVariants.{Started, Given, NoData, Refused, Waits, AreaIn, AreaOut, Arrived, Done}
use Rattle.com_events.specs.declared.entry.Entry.{Entry}
use Rattle.com_events.specs.Calls.{IsCallOf, IsWellFormed, HasText}
use Rattle.com_journal.specs.Words.{frame_word}
use Rattle.com_journal.specs.Lines.{spaced, end_fields, call_fields, reply_fields, call_text, reply_text, IsCallText, IsLine}
use Rattle.com_journal.specs.inner.Writing.{written, party_sort, party_name, with_entry}
use Rattle.com_journal.specs.inner.Reading.{word_at, expected, first_at, name_of, party_of, party_at, verb_behind, call_at, reply_at, end_at, call_of, entry_of}
use Rattle.com_journal.proofs.Options.{step}
use Rattle.com_journal.proofs.Fields.{HasNoSpace-name}
use Rattle.com_journal.proofs.Spelled.{spelled, spelled-rest, spaced-spelled, written-spelled}
use Rattle.com_journal.proofs.FieldLaws.{IsEnd, no_space, word-complete, word-sound, expected-complete, expected-sound}
use Rattle.com_journal.proofs.CallLaws.{spelled_end, unit-sound, unit-complete, terminal-sound, terminal-complete}
use Rattle.com_journal.proofs.ReplyLaws.{reply-sound, reply-complete}

-- the text of a party's call, before these bytes
abbrev pub call_spelled : Party → Call → List ℕ → List ℕ
call_spelled party call rest = party_sort party ∷ spelled (party_name party ∷ call_fields call) rest

abbrev pub line_spelled : Entry → List ℕ
line_spelled entry = call_spelled entry.party entry.call (spelled (codes "=" ∷ reply_fields entry.reply) [])

pub call_text-spelled : (who : Party) (call : Call) → call_text who call ≡ call_spelled who call []
call_text-spelled (party.Unit name) call = spaced-spelled (codes "U") (name ∷ call_fields call)
call_text-spelled (party.Terminal name) call = spaced-spelled (codes "T") (name ∷ call_fields call)

first-sound : (line : List ℕ) (byte : ℕ) (rest : List ℕ) → first_at line ≡ Some (byte, rest) → line ≡ byte ∷ rest
unfolding first_at
first-sound [] byte rest h = absurd (none-some (byte, rest) h)
first-sound (first ∷ others) byte rest h =
    let parts = some_pair_parts first byte others rest h in
    rw (parts.0, parts.1) refl

terminal_sort : (sort : ℕ) (name : List ℕ) (who : Party) → cond {A = Option Party} (sort == 84) (Some (party.Terminal name)) None ≡ Some who → (sort ≡ party_sort who) × (name ≡ party_name who)
terminal_sort sort name who h =
    let p = cond_some (sort == 84) (party.Terminal name) who h in
    rw (← p.1) (eqb-true sort 84 p.0, refl)

sort-sound : (sort : ℕ) (name : List ℕ) (who : Party) → party_of sort name ≡ Some who → (sort ≡ party_sort who) × (name ≡ party_name who)
unfolding party_of
sort-sound sort name who h = elim (cases_Bool (sort == 85)) [
  | inl unit ↦ rw (← same_Some (party.Unit name) who (rw unit at h)) (eqb-true sort 85 unit, refl)
  | inr other ↦ terminal_sort sort name who (rw other at h)
]

party-sound : (line : List ℕ) (who : Party) (rest : List ℕ) → party_at line ≡ Some (who, rest) → IsName (party_name who) × (line ≡ party_sort who ∷ 32 ∷ (party_name who ++ rest))
unfolding party_at name_of
party-sound line who rest h =
    step (first_at line) _ (who, rest) h (λ sort first h1.
    step (word_at sort.1) _ (who, rest) h1 (λ word is h2.
    step (name_of word.0) _ (who, rest) h2 (λ name name_is h3.
    step (party_of sort.0 name) _ (who, rest) h3 (λ found found_is h4.
    let a = first-sound line sort.0 sort.1 first in
    let b = word-sound sort.1 word.0 word.1 is in
    let p = cond_some (is_name word.0) word.0 name name_is in
    let parts = some_pair_parts found who word.1 rest h4 in
    let c = sort-sound sort.0 name who (found_is ∙ ap Some parts.0) in
    let valid : IsName (party_name who) = subst IsName (p.1 ∙ c.1) p.0 in
    (valid, rw (a, b, p.1, c.0, c.1, parts.1) refl)))))

behind-sound : (who : Party) (verb bytes : List ℕ) (call : Call) (rest : List ℕ) → verb_behind who verb bytes ≡ Some (call, rest) → IsName (party_name who)
    → IsCallOf who call × IsWellFormed call × (32 ∷ (verb ++ bytes) ≡ spelled (call_fields call) rest)
unfolding verb_behind
behind-sound (party.Unit name) verb bytes call rest h valid =
    let found = unit-sound verb bytes call rest h in
    ((valid, found.sort), found.ranges, found.whole)
behind-sound (party.Terminal name) verb bytes call rest h valid =
    let found = terminal-sound verb bytes call rest h in
    ((valid, found.sort), found.ranges, found.whole)

-- what is read as a call at the beginning of a line
record IsCallRead (line : List ℕ) (who : Party) (call : Call) (rest : List ℕ) : Type 0 where
  caller : IsCallOf who call
  ranges : IsWellFormed call
  whole : line ≡ call_spelled who call rest

call_at-sound : (line : List ℕ) (who : Party) (call : Call) (rest : List ℕ) → call_at line ≡ Some ((who, call), rest) → IsCallRead line who call rest
unfolding call_at
call_at-sound line who call rest h =
    step (party_at line) _ ((who, call), rest) h (λ caller caller_is h1.
    step (word_at caller.1) _ ((who, call), rest) h1 (λ verb is h2.
    step (verb_behind caller.0 verb.0 verb.1) _ ((who, call), rest) h2 (λ found found_is h3.
    let a = party-sound line caller.0 caller.1 caller_is in
    let b = word-sound caller.1 verb.0 verb.1 is in
    let c = behind-sound caller.0 verb.0 verb.1 found.0 found.1 found_is a.0 in
    let all : IsCallRead line caller.0 found.0 found.1 = record { caller = c.0; ranges = c.1; whole = rw (a.1, b, c.2) refl } in
    subst (λ (x : (Party × Call) × List ℕ). IsCallRead line x.0.0 x.0.1 x.1) (same_Some ((caller.0, found.0), found.1) ((who, call), rest) h3) all)))

call_at-complete : (who : Party) (call : Call) (rest : List ℕ) → IsCallOf who call → IsWellFormed call → IsEnd rest → call_at (call_spelled who call rest) ≡ Some ((who, call), rest)
unfolding call_at party_at first_at name_of party_of verb_behind
call_at-complete (party.Unit name) call rest caller ranges end =
    let back = unit-complete call rest caller.1 ranges end in
    rw (word-complete name (spelled (call_fields call) rest) (HasNoSpace-name name caller.0) (spelled_end (call_fields call) rest end), caller.0, back.word, back.found) refl
call_at-complete (party.Terminal name) call rest caller ranges end =
    let back = terminal-complete call rest caller.1 ranges end in
    rw (word-complete name (spelled (call_fields call) rest) (HasNoSpace-name name caller.0) (spelled_end (call_fields call) rest end), caller.0, back.word, back.found) refl

nothing : (bytes : List ℕ) → length bytes ≡ 0 → bytes ≡ []
nothing [] h = refl
nothing (byte ∷ bytes) h = absurd (omega (arith, h))

end-sound : (bytes rest : List ℕ) → end_at bytes ≡ Some rest → bytes ≡ []
unfolding end_at
end-sound bytes rest h = nothing bytes (eqb-true (length bytes) 0 (cond_some (length bytes == 0) bytes rest h).0)

-- the text of a call
pub call-sound : (line : List ℕ) (who : Party) (call : Call) → call_of line ≡ Some (who, call) → IsCallText who call line
unfolding call_of
call-sound line who call h =
    step (call_at line) _ (who, call) h (λ found found_is h1.
    step (end_at found.1) _ (who, call) h1 (λ left end h2.
    let a = call_at-sound line found.0.0 found.0.1 found.1 found_is in
    let none = end-sound found.1 left end in
    let all : IsCallText found.0.0 found.0.1 line = record { caller = a.caller; ranges = a.ranges; spelled = a.whole ∙ (ap (call_spelled found.0.0 found.0.1) none ∙ sym (call_text-spelled found.0.0 found.0.1)) } in
    subst (λ (x : Party × Call). IsCallText x.0 x.1 line) (same_Some found.0 (who, call) h2) all))

pub call-complete : (line : List ℕ) (who : Party) (call : Call) → IsCallText who call line → call_of line ≡ Some (who, call)
unfolding call_of end_at
call-complete line who call h =
    let whole : line ≡ call_spelled who call [] = h.spelled ∙ call_text-spelled who call in
    rw (whole, call_at-complete who call [] h.caller h.ranges tt) refl

-- the text of a reply
reply-spelled : (reply : Reply) → 32 ∷ reply_text reply ≡ spelled (reply_fields reply) []
reply-spelled (Started None) = ap (λ xs. 32 ∷ xs) (spaced-spelled (counted_field []) [])
reply-spelled (Started (Some names)) = ap (λ xs. 32 ∷ xs) (spaced-spelled (counted_field names) [])
reply-spelled (Given area text) = ap (λ xs. 32 ∷ xs) (spaced-spelled (codes "TEXT") (counted_field area ∷ counted_field text ∷ []))
reply-spelled (NoData area) = ap (λ xs. 32 ∷ xs) (spaced-spelled (codes "NONE") (counted_field area ∷ []))
reply-spelled (Refused area) = ap (λ xs. 32 ∷ xs) (spaced-spelled (codes "REFUSED") (counted_field area ∷ []))
reply-spelled Waits = ap (λ xs. 32 ∷ xs) (spaced-spelled (codes "WAITS") [])
reply-spelled (AreaIn area) = ap (λ xs. 32 ∷ xs) (spaced-spelled (counted_field area) [])
reply-spelled (AreaOut area) = ap (λ xs. 32 ∷ xs) (spaced-spelled (counted_field area) [])
reply-spelled (Arrived number) = ap (λ xs. 32 ∷ xs) (spaced-spelled (decimal number) [])
reply-spelled Done = ap (λ xs. 32 ∷ xs) (spaced-spelled (codes "DONE") [])

joined-spelled : (who : Party) (call : Call) (reply : Reply) → (call_text who call ++ codes " = ") ++ reply_text reply ≡ call_spelled who call (spelled (codes "=" ∷ reply_fields reply) [])
joined-spelled who call reply =
    let fields = party_name who ∷ call_fields call in
    let behind : codes " = " ++ reply_text reply ≡ spelled (codes "=" ∷ reply_fields reply) [] = ap (λ xs. 32 ∷ 61 ∷ xs) (reply-spelled reply) in
    append_assoc (call_text who call) (codes " = ") (reply_text reply)
    ∙ (ap (λ xs. xs ++ (codes " = " ++ reply_text reply)) (call_text-spelled who call)
    ∙ (ap (λ xs. call_spelled who call [] ++ xs) behind
    ∙ ap (λ xs. party_sort who ∷ xs) (spelled-rest fields (spelled (codes "=" ∷ reply_fields reply) []))))

-- the line of an entry
pub line-spelled : (entry : Entry) (line : List ℕ) → IsLine entry line → line ≡ line_spelled entry
line-spelled entry line h = h.spelled ∙ joined-spelled entry.party entry.call entry.reply

pub spelled-line : (entry : Entry) (line : List ℕ) → HasText entry → line ≡ line_spelled entry → IsLine entry line
spelled-line entry line h e = record { has_text = h; spelled = e ∙ sym (joined-spelled entry.party entry.call entry.reply) }

pub entry-sound : (line : List ℕ) (entry : Entry) → entry_of line ≡ Some entry → IsLine entry line
unfolding entry_of
entry-sound line entry h =
    step (call_at line) _ entry h (λ found found_is h1.
    step (expected (codes "=") found.1) _ entry h1 (λ rest rest_is h2.
    step (reply_at found.0.1 rest) _ entry h2 (λ reply reply_is h3.
    step (end_at reply.1) _ entry h3 (λ left end h4.
    let a = call_at-sound line found.0.0 found.0.1 found.1 found_is in
    let b = expected-sound (codes "=") found.1 rest rest_is in
    let c = reply-sound found.0.1 rest reply.0 reply.1 reply_is in
    let none = end-sound reply.1 left end in
    let made : Entry = record { party = found.0.0; call = found.0.1; reply = reply.0 } in
    let text : HasText made = record { caller = a.caller; call = a.ranges; reply = c.sort } in
    let behind : found.1 ≡ spelled (codes "=" ∷ reply_fields reply.0) [] =
    b ∙ (ap (λ xs. 32 ∷ 61 ∷ xs) c.whole ∙ ap (λ xs. 32 ∷ 61 ∷ spelled (reply_fields reply.0) xs) none) in
    let all : IsLine made line = spelled-line made line text (a.whole ∙ ap (call_spelled found.0.0 found.0.1) behind) in
    subst (λ (x : Entry). IsLine x line) (same_Some made entry h4) all))))

pub entry-complete : (line : List ℕ) (entry : Entry) → IsLine entry line → entry_of line ≡ Some entry
unfolding entry_of end_at
entry-complete line entry h =
    let fields = reply_fields entry.reply in
    let after = spelled fields [] in
    let whole = line-spelled entry line h in
    rw (
      whole,
      call_at-complete entry.party entry.call (spelled (codes "=" ∷ fields) []) h.has_text.caller h.has_text.call refl,
      expected-complete (codes "=") after (no_space (codes "=") refl) (spelled_end fields [] tt),
      reply-complete entry.call entry.reply [] h.has_text.reply tt,
    ) refl

-- what is written of an entry is its line
pub with_entry-line : (bytes : List ℕ) (entry : Entry) → with_entry bytes entry ≡ bytes ++ line_spelled entry
with_entry-line bytes entry =
    let sort = party_sort entry.party in
    let name = party_name entry.party in
    let fields = call_fields entry.call in
    let last = codes "=" ∷ reply_fields entry.reply in
    let start = (bytes ++ sort ∷ []) ++ 32 ∷ name in
    written-spelled (written start fields) last
    ∙ (ap (λ xs. xs ++ spelled last []) (written-spelled start fields)
    ∙ (append_assoc start (spelled fields []) (spelled last [])
    ∙ (ap (λ xs. start ++ xs) (spelled-rest fields (spelled last []))
    ∙ (append_assoc (bytes ++ sort ∷ []) (32 ∷ name) (spelled fields (spelled last []))
    ∙ append_assoc bytes (sort ∷ []) (32 ∷ (name ++ spelled fields (spelled last [])))))))

-- and so it is where its call's text is written as it stands
pub written_behind : (bytes call : List ℕ) (entry : Entry) → call ≡ call_text entry.party entry.call
    → written (bytes ++ call) (codes "=" ∷ reply_fields entry.reply) ≡ with_entry bytes entry
written_behind bytes call entry is =
    let sort = party_sort entry.party in
    let fields = party_name entry.party ∷ call_fields entry.call in
    let last = codes "=" ∷ reply_fields entry.reply in
    written-spelled (bytes ++ call) last
    ∙ (append_assoc bytes call (spelled last [])
    ∙ (ap (λ xs. bytes ++ (xs ++ spelled last [])) (is ∙ call_text-spelled entry.party entry.call)
    ∙ (ap (λ xs. bytes ++ sort ∷ xs) (spelled-rest fields (spelled last []))
    ∙ sym (with_entry-line bytes entry))))

-- why a terminal ends, after a space
pub end_spelled : (reason : EndReason) → spelled (end_fields reason) [] ≡ 32 ∷ spaced (end_fields reason)
end_spelled finish.End = refl
end_spelled finish.Fault = refl
end_spelled finish.Long = refl
end_spelled finish.Idle = refl
end_spelled (finish.Frame fault) = ap (λ xs. 32 ∷ xs) (sym (spaced-spelled (codes "FRAME") (frame_word fault.kind ∷ decimal fault.at ∷ [])))
