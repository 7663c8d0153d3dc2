-- The entries of a unit that was started and has not stopped.
use Rattle.std.specs.Prelude.{◌≡◌, ℕ, List, ◌∷◌, Option}
use Rattle.com_events.specs.declared.call.Call.{Call}
use Rattle.com_events.specs.declared.call.Party.{Party}
use Rattle.com_events.specs.declared.entry.Entry.{Entry}
use Rattle.com_events.specs.declared.reply.Reply.{Reply}
use Rattle.cob_meaning.specs.Meaning.{Program, Wants, meaning}
use Rattle.cob_meaning.specs.Follows.{AreVerbs, WaitsAtLast, calls_of, replies_of, started}

-- The entries of a unit of this program, to which START handed these names and whose verbs had
-- these replies: START, and then verbs with the calls that the program makes. If the last one
-- waits, the program wants its call.
pub record AreOwnEntries (party : Party) (program : Program) (names : Option (List ℕ))
    (replies : List Reply) (entries : List Entry) : Type 0 where
  pub verbs : List Entry
  pub entries_are : entries ≡ started party names ∷ verbs
  pub are_verbs : AreVerbs verbs
  pub replies_are : replies_of verbs ≡ replies
  pub calls : (meaning program names replies).calls ≡ calls_of verbs
  pub waiting : (call : Call) → WaitsAtLast party verbs call
      → (meaning program names replies).ending ≡ Wants call

-- the entry of a verb that was answered
abbrev pub answered_entry : Party → Call → Reply → Entry
answered_entry party call reply = record { party = party; call = call; reply = reply }
