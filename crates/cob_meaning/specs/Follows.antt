-- What the entries of a unit say of its program.
use Rattle.std.specs.Prelude.{◌≡◌, ◌⊎◌, ℕ, Bool, true, false, not, IsTrue, List, [], ◌∷◌, ◌++◌, map, Option}
use Rattle.std.specs.List.{filter, list_all}
use Rattle.com_events.specs.declared.call.Party.{Party}
use Rattle.com_events.specs.declared.call.StopReason.{StopReason}
use Rattle.com_events.specs.declared.call.StopReason.TheVariants as reason
use Rattle.com_events.specs.declared.call.Call.{Call}
use Rattle.com_events.specs.declared.call.Call.TheVariants.{Start, Receive, Count, Send, SwitchInput, SwitchOutput, Stop}
use Rattle.com_events.specs.declared.reply.Reply.{Reply}
use Rattle.com_events.specs.declared.reply.Reply.TheVariants.{Started, Waits, Done}
use Rattle.com_events.specs.declared.entry.Entry.{Entry}
use Rattle.cob_meaning.specs.Meaning.{Ending, Stopped, Wants, Program, meaning}

-- whether a call is a communication verb's
abbrev pub is_verb : Call → Bool
is_verb (Receive area kind size no_data) = true
is_verb (Count area) = true
is_verb (Send area part item) = true
is_verb (SwitchInput on terminal area key) = true
is_verb (SwitchOutput on area key) = true
is_verb _ = false

-- whether a call is a RECEIVE, the one verb that may wait
abbrev pub is_receive : Call → Bool
is_receive (Receive area kind size no_data) = true
is_receive _ = false

-- whether a reply is that the call waits
abbrev pub is_waiting : Reply → Bool
is_waiting Waits = true
is_waiting _ = false

-- the entries that were answered; that of a RECEIVE that waits is not yet
abbrev pub answers_of : List Entry → List Entry
answers_of entries = filter (λ entry. not (is_waiting entry.reply)) entries

-- their calls
abbrev pub calls_of : List Entry → List Call
calls_of entries = map (λ entry. entry.call) (answers_of entries)

-- their replies
abbrev pub replies_of : List Entry → List Reply
replies_of entries = map (λ entry. entry.reply) (answers_of entries)

-- the entry of START, which hands over these names
abbrev pub started : Party → Option (List ℕ) → Entry
started party names = record { party = party; call = Start; reply = Started names }

-- the entry of a RECEIVE that waits
abbrev pub waits : Party → Call → Entry
waits party call = record { party = party; call = call; reply = Waits }

-- the entry with which a unit stops
abbrev pub stopped : Party → StopReason → Entry
stopped party reason = record { party = party; call = Stop reason; reply = Done }

-- the calls of entries are communication verbs'
abbrev pub AreVerbs : List Entry → Type 0
AreVerbs entries = IsTrue (list_all (λ entry. is_verb entry.call) entries)

-- given these names and the replies of the verbs, the program makes just their calls, and comes to
-- this
pub record Makes (program : Program) (names : Option (List ℕ)) (verbs : List Entry) (end : Ending)
    : Type 0 where
  pub calls : (meaning program names (replies_of verbs)).calls ≡ calls_of verbs
  pub comes_to : (meaning program names (replies_of verbs)).ending ≡ end

-- a unit that stopped as its program does
pub record StopsByItself (party : Party) (program : Program) (entries : List Entry) : Type 0 where
  pub names : Option (List ℕ)
  pub verbs : List Entry
  pub reason : StopReason
  pub entries_are : entries ≡ started party names ∷ verbs ++ stopped party reason ∷ []
  pub are_verbs : AreVerbs verbs
  pub makes : Makes program names verbs (Stopped reason)

-- a unit that waited with a RECEIVE when nothing could happen any more
pub record StopsWaiting (party : Party) (program : Program) (entries : List Entry) : Type 0 where
  pub names : Option (List ℕ)
  pub verbs : List Entry
  pub call : Call
  pub entries_are : entries
      ≡ started party names ∷ verbs ++ waits party call ∷ stopped party reason.Idle ∷ []
  pub are_verbs : AreVerbs verbs
  pub receives : IsTrue (is_receive call)
  pub makes : Makes program names verbs (Wants call)

-- the own entries of a unit that has stopped are those of its program; or it was never started
abbrev pub Follows : Party → Program → List Entry → Type 0
Follows party program entries =
    StopsByItself party program entries
    ⊎ (StopsWaiting party program entries ⊎ (entries ≡ stopped party reason.Idle ∷ []))

-- the last entry waits with this call
abbrev pub WaitsAtLast : Party → List Entry → Call → Type 0
WaitsAtLast party verbs call = (before : List Entry) × (verbs ≡ before ++ waits party call ∷ [])

-- a unit that was started and has not stopped
pub record IsRunning (party : Party) (program : Program) (entries : List Entry) : Type 0 where
  pub names : Option (List ℕ)
  pub verbs : List Entry
  pub entries_are : entries ≡ started party names ∷ verbs
  pub are_verbs : AreVerbs verbs
  pub calls : (meaning program names (replies_of verbs)).calls ≡ calls_of verbs
  pub waiting : (call : Call) → WaitsAtLast party verbs call
      → (meaning program names (replies_of verbs)).ending ≡ Wants call

-- a unit's own entries, at any time
abbrev pub SoFar : Party → Program → List Entry → Type 0
SoFar party program entries =
    (entries ≡ []) ⊎ (Follows party program entries ⊎ IsRunning party program entries)

-- what comes after an entry that waits: the same call, which then waits no longer, or the STOP of a
-- unit for which nothing can happen any more
abbrev pub ComesAfter : Entry → Entry → Type 0
ComesAfter waiting next =
    ((next.call ≡ waiting.call) × (is_waiting next.reply ≡ false)) ⊎ (next.call ≡ Stop reason.Idle)

-- after each entry that waits comes such an entry, or none
abbrev pub AsksAgain : List Entry → Type 0
AsksAgain [] = Unit {0}
AsksAgain (entry ∷ []) = Unit {0}
AsksAgain (entry ∷ next ∷ entries) =
    (is_waiting entry.reply ≡ true → ComesAfter entry next) × AsksAgain (next ∷ entries)
