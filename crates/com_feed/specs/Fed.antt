-- What the entries of a terminal tell of its input.
use Rattle.std.specs.Prelude.{◌≡◌, ◌≢◌, ◌⊎◌, ℕ, ◌<◌, ◌≤◌, Bool, true, false, IsFalse, List, [], ◌∷◌, ◌++◌, length, take, Option, Some, None}
use Rattle.std.specs.List.{All, flat_map}
use Rattle.com_msg.specs.declared.message.RawMessage.{RawMessage}
use Rattle.com_msg.specs.declared.framing.Framing.{Framing}
use Rattle.com_msg.specs.declared.framing.FrameFault.{FrameFault}
use Rattle.com_io.specs.Files.{file_limit}
use Rattle.com_lines.specs.Frames.{Frames, Finished, IsSettledFault, IsStopped}
use Rattle.com_events.specs.declared.call.Party.{Party}
use Rattle.com_events.specs.declared.call.EndReason.{EndReason}
use Rattle.com_events.specs.declared.call.EndReason.TheVariants as finish
use Rattle.com_events.specs.declared.call.Call.{Call}
use Rattle.com_events.specs.declared.call.Call.TheVariants.{Arrive, Held, Finish}
use Rattle.com_events.specs.declared.reply.Reply.TheVariants.{Done}
use Rattle.com_events.specs.declared.entry.Entry.{Entry}
use Rattle.com_events.specs.Fronts.{IsPrefixOf}

-- the bytes of an input that are looked at
abbrev pub looked_at : List ℕ → List ℕ
looked_at bytes = take file_limit bytes

-- a prefix that is not all
abbrev pub IsProperPrefixOf : {X : Type 0} → List X → List X → Type 0
IsProperPrefixOf {X} front whole = (rest : List X) × (whole ≡ front ++ rest) × (rest ≢ [])

-- the messages of ARRIVE entries, in order
abbrev pub message_of : Call → List RawMessage
message_of (Arrive stamp message) = message ∷ []
message_of _ = []

abbrev pub arrivals_of : List Entry → List RawMessage
arrivals_of entries = flat_map (λ entry. message_of entry.call) entries

-- no fault is settled in the bytes
abbrev pub IsUnsettled : Framing → List ℕ → Type 0
IsUnsettled framing bytes = (fault : FrameFault) → IsSettledFault framing bytes fault → ⊥

-- an input that is longer than what is looked at, where no fault is settled
pub record IsTooLong (framing : Framing) (bytes : List ℕ) (messages : List RawMessage)
    : Type 0 where
  pub longer : file_limit < length bytes
  pub unsettled : IsUnsettled framing (looked_at bytes)
  pub ended : Finished framing (looked_at bytes) messages

-- a source that failed when it had given these bytes
pub record HasFailed (framing : Framing) (bytes given : List ℕ) (messages : List RawMessage)
    : Type 0 where
  pub front : IsPrefixOf given (looked_at bytes)
  pub unsettled : IsUnsettled framing given
  pub ended : Finished framing given messages

-- The messages of an input, by the reason for which its terminal ends by itself. `gone` is what the
-- source gave, where it failed.
abbrev pub Gives : Framing → List ℕ → Option (List ℕ) → EndReason → List RawMessage → Type 0
Gives framing bytes _ finish.End messages =
    (length bytes ≤ file_limit) × Frames framing bytes messages None
Gives framing bytes _ (finish.Frame fault) messages =
    ((length bytes ≤ file_limit) × Frames framing bytes messages (Some fault))
    ⊎ ((file_limit < length bytes) × IsStopped framing (looked_at bytes) messages fault)
Gives framing bytes _ finish.Long messages = IsTooLong framing bytes messages
Gives framing bytes None finish.Fault messages = ⊥
Gives framing bytes (Some given) finish.Fault messages = HasFailed framing bytes given messages
Gives framing bytes _ finish.Idle messages = ⊥

abbrev pub held : Party → Entry
held party = record { party = party; call = Held; reply = Done }

abbrev pub finished : Party → EndReason → Entry
finished party reason = record { party = party; call = Finish reason; reply = Done }

-- Its next message could not come in when nothing could happen any more: so it was held, and
-- messages of its input are missing.
pub record IsHeldUp
    (party : Party) (framing : Framing) (bytes : List ℕ) (gone : Option (List ℕ))
    (before : List Entry) : Type 0 where
  pub reason : EndReason
  pub all : List RawMessage
  pub gives : Gives framing bytes gone reason all
  pub missing : IsProperPrefixOf (arrivals_of before) all
  pub earlier : List Entry
  pub held : before ≡ earlier ++ held party ∷ []

-- the entries before END, by its reason
abbrev pub AreFed : Party → Framing → List ℕ → Option (List ℕ) → EndReason → List Entry → Type 0
AreFed party framing bytes gone finish.Idle before = IsHeldUp party framing bytes gone before
AreFed party framing bytes gone reason before = Gives framing bytes gone reason (arrivals_of before)

-- A terminal's own entries, once it has ended, are those of its input: these bytes, of which the
-- source gave `gone` where it failed. Without an input there are no bytes.
pub record Fed
    (party : Party) (framing : Framing) (bytes : List ℕ) (gone : Option (List ℕ))
    (entries : List Entry) : Type 0 where
  pub before : List Entry
  pub reason : EndReason
  pub ended : entries ≡ before ++ finished party reason ∷ []
  pub are_fed : AreFed party framing bytes gone reason before

abbrev pub is_end : Call → Bool
is_end (Finish reason) = true
is_end _ = false

-- no END among the entries
abbrev pub HasNoEnd : List Entry → Type 0
HasNoEnd entries = All (λ entry. IsFalse (is_end entry.call)) entries

-- messages that come first in an input, as far as no source fails
pub record AreFirst (framing : Framing) (bytes : List ℕ) (messages : List RawMessage) : Type 0 where
  pub reason : EndReason
  pub all : List RawMessage
  pub gives : Gives framing bytes None reason all
  pub prefix : IsPrefixOf messages all

-- a terminal that has not ended: what has arrived are the first messages of its input
pub record IsBeingFed (framing : Framing) (bytes : List ℕ) (entries : List Entry) : Type 0 where
  pub no_end : HasNoEnd entries
  pub arrivals : AreFirst framing bytes (arrivals_of entries)

-- a terminal's own entries, at any time
abbrev pub FedSoFar : Party → Framing → List ℕ → Option (List ℕ) → List Entry → Type 0
FedSoFar party framing bytes gone entries =
    Fed party framing bytes gone entries ⊎ IsBeingFed framing bytes entries
