-- What a framer stands for: the bytes that it has had, and the messages that it has given.
use Rattle.std.specs.Prelude.{ℕ, ◌≡◌, List, Result, Ok, Err}
use Rattle.com_msg.specs.declared.message.RawMessage.{RawMessage}
use Rattle.com_msg.specs.declared.framing.Framing.{Framing}
use Rattle.com_msg.specs.declared.framing.FrameFault.{FrameFault}
use Rattle.com_lines.specs.declared.reading.FeedError.{FeedError}
use Rattle.com_lines.specs.declared.reading.FeedError.TheVariants.{Fault, Memory}
use Rattle.com_lines.specs.declared.reading.Reading.{Reading}
use Rattle.com_lines.specs.declared.framer.State.{State}
use Rattle.com_lines.specs.declared.framer.State.TheVariants.{Going, Faulted, NoMemory, Ended}
use Rattle.com_lines.specs.Frames.{Finished, IsStopped}
use Rattle.com_lines.specs.inner.Readings.{HasRead, IsSafe}

-- a framer: how it stands, and what it keeps of the bytes
pub record Framed : Type 0 where
  pub state : State
  pub reading : Reading

-- a framer that goes on is within the limits
abbrev pub IsSafeIn : State → Reading → Type 0
IsSafeIn Going reading = IsSafe reading
IsSafeIn (Faulted fault) reading = Unit {0}
IsSafeIn NoMemory reading = Unit {0}
IsSafeIn Ended reading = Unit {0}

-- no fault and no out of memory so far
abbrev pub IsGoing : Framed → Type 0
IsGoing framer = framer.state ≡ Going

-- a call has answered this fault
abbrev pub HasFaulted : Framed → FrameFault → Type 0
HasFaulted framer fault = framer.state ≡ Faulted fault

-- a call has answered out of memory
abbrev pub WantsMemory : Framed → Type 0
WantsMemory framer = framer.state ≡ NoMemory

-- the input has not ended: no `finish` was answered Ok
abbrev pub IsUnfinishedIn : State → Type 0
IsUnfinishedIn Going = Unit {0}
IsUnfinishedIn (Faulted fault) = Unit {0}
IsUnfinishedIn NoMemory = Unit {0}
IsUnfinishedIn Ended = ⊥

abbrev pub IsUnfinished : Framed → Type 0
IsUnfinished framer = IsUnfinishedIn framer.state

-- what a framer stands for, by how it stands
abbrev pub StandsIn : State → Framing → Reading → List ℕ → List RawMessage → Type 0
StandsIn Going framing reading bytes given =
    (reading.framing ≡ framing) × HasRead reading bytes given × Finished framing bytes given
StandsIn (Faulted fault) framing reading bytes given =
    IsStopped framing bytes given fault × Finished framing bytes given
StandsIn NoMemory framing reading bytes given = Unit {0}
StandsIn Ended framing reading bytes given = Unit {0}

-- A framer of this framing has had these bytes and given these messages, which are those that the
-- bytes finish. After out of memory, and after the end, nothing is said.
abbrev pub StandsFor : Framing → Framed → List ℕ → List RawMessage → Type 0
StandsFor framing framer bytes given = StandsIn framer.state framing framer.reading bytes given

-- an answer of out of memory
abbrev pub IsMemory : Result (Unit {0}) FeedError → Type 0
IsMemory (Ok done) = ⊥
IsMemory (Err (Fault fault)) = ⊥
IsMemory (Err (Memory error)) = Unit {0}

-- how a framer stands after a piece
abbrev pub state_after : Result (Unit {0}) FeedError → State
state_after (Ok done) = Going
state_after (Err (Fault fault)) = Faulted fault
state_after (Err (Memory error)) = NoMemory

-- how a framer stands after the end of its input
abbrev pub state_at_end : Result (Unit {0}) FeedError → State
state_at_end (Ok done) = Ended
state_at_end (Err (Fault fault)) = Faulted fault
state_at_end (Err (Memory error)) = NoMemory
