-- What the verbs of units are answered, and the state that they leave.
use Rattle.std.specs.Prelude.{ℕ, ◌≤◌, Bool, List, length, option_and_then, is_some}
use Rattle.com_msg.specs.declared.rest.TheConstants.{MAX_SIZE}
use Rattle.com_events.specs.declared.reply.Reply.{Reply}
use Rattle.com_events.specs.declared.reply.Reply.TheVariants.{Given, NoData, Refused, AreaOut}
use Rattle.com_recv.specs.declared.queues.Taken.{Taken}
use Rattle.com_recv.specs.declared.queues.Taken.TheVariants as taken
use Rattle.com_recv.specs.Incoming.{designated}
use Rattle.com_recv.specs.Receiving.{Received, next_rest}
use Rattle.com_send.specs.Sending.{Answer}
use Rattle.com_state.specs.State.{State}

-- the RECEIVE has something to go on with
abbrev pub is_ready : State → ℕ → List ℕ → Bool
is_ready S unit area =
    is_some (option_and_then (next_rest S.net.tree S.incoming unit) (designated S.net.tree area))

-- the reply to a RECEIVE, by what was taken and the area
abbrev pub reply_of : Taken → List ℕ → Reply
reply_of (taken.Given text) area = Given area text
reply_of taken.NoData area = NoData area
reply_of taken.Unknown area = Refused area

-- a portion has no more characters than a RECEIVE may ask for
abbrev pub IsShort : Taken → Type 0
IsShort (taken.Given text) = length text ≤ MAX_SIZE
IsShort taken.NoData = Unit {0}
IsShort taken.Unknown = Unit {0}

-- a RECEIVE changes what waits and what is held
abbrev pub received : State → Received → Reply × State
received S done = (reply_of done.0 done.1, record S { incoming = done.2 })

-- a SEND, and an ENABLE or DISABLE OUTPUT, change what is outgoing
abbrev pub answered : State → Answer → Reply × State
answered S answer = (AreaOut answer.0, record S { outgoing = answer.1 })
