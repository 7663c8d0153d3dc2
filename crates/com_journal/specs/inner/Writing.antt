-- How a line is written, field after field, for the functions that write one.
use Rattle.std.specs.Prelude.{ℕ, List, [], ◌∷◌, ◌++◌, codes, IfSome, All}
use Rattle.com_text.specs.Counted.{IsCountable}
use Rattle.com_events.specs.declared.call.Party.{Party}
use Rattle.com_events.specs.declared.call.Party.TheVariants as party
use Rattle.com_events.specs.declared.call.Call.{Call}
use Rattle.com_events.specs.declared.call.Call.TheVariants.{Start, Receive, Count, Send, SwitchInput, SwitchOutput, Arrive, Held, Stop, Finish}
use Rattle.com_events.specs.declared.reply.Reply.{Reply}
use Rattle.com_events.specs.declared.reply.Reply.TheVariants.{Given}
use Rattle.com_events.specs.declared.entry.Entry.{Entry}
use Rattle.com_journal.specs.Lines.{call_fields, reply_fields}

-- bytes, and fields after them, each after a space
abbrev pub written : List ℕ → List (List ℕ) → List ℕ
written bytes [] = bytes
written bytes (field ∷ fields) = written (bytes ++ 32 ∷ field) fields

-- the parts that are written as counted fields are short enough
abbrev pub AreCountable : Call → Type 0
AreCountable Start = Unit {0}
AreCountable (Receive area kind size no_data) = Unit {0}
AreCountable (Count area) = Unit {0}
AreCountable (Send area part item) = IfSome item IsCountable
AreCountable (SwitchInput on terminal area key) = IsCountable key
AreCountable (SwitchOutput on area key) = IsCountable key
AreCountable (Arrive stamp message) = All IsCountable message.segments
AreCountable Held = Unit {0}
AreCountable (Stop reason) = Unit {0}
AreCountable (Finish reason) = Unit {0}

abbrev pub IsCountableReply : Reply → Type 0
IsCountableReply (Given area text) = IsCountable text
IsCountableReply _ = Unit {0}

-- the letter and the name of a party
abbrev pub party_sort : Party → ℕ
party_sort (party.Unit name) = 85
party_sort (party.Terminal name) = 84

abbrev pub party_name : Party → List ℕ
party_name (party.Unit name) = name
party_name (party.Terminal name) = name

-- bytes, and the line of an entry after them
abbrev pub with_entry : List ℕ → Entry → List ℕ
with_entry bytes entry =
    written (written (written (bytes ++ party_sort entry.party ∷ []) (party_name entry.party ∷ []))
    (call_fields entry.call)) (codes "=" ∷ reply_fields entry.reply)
