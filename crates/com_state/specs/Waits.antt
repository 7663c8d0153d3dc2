-- What calls wait for, and which replies are of a call.
use Rattle.std.specs.Prelude.{ℕ, Bool, true, false, Option, Some, None, is_some}
use Rattle.com_tree.specs.declared.tree.Node.{Node}
use Rattle.com_events.specs.declared.call.Call.{Call}
use Rattle.com_events.specs.declared.call.Call.TheVariants.{Start, Receive, Count, Send, SwitchInput, SwitchOutput, Arrive, Held, Stop, Finish}
use Rattle.com_events.specs.declared.reply.Reply.{Reply}
use Rattle.com_events.specs.declared.reply.Reply.TheVariants.{Started, Given, NoData, Refused, Waits, AreaIn, AreaOut, Arrived, Done}
use Rattle.com_recv.specs.Incoming.{chosen_leaf}
use Rattle.com_state.specs.State.{State}
use Rattle.com_state.specs.Steps.{schedule_of}

-- a message waits under the node of the schedule, or there is no schedule
abbrev pub is_scheduled_now : State → Option Node → Bool
is_scheduled_now S None = true
is_scheduled_now S (Some node) = is_some (chosen_leaf S.net.tree S.incoming.waiting node)

-- what START of a unit waits for is there
abbrev pub has_start : State → ℕ → Bool
has_start S unit = is_scheduled_now S (schedule_of S.net unit)

-- the reply is of the call's kind
abbrev pub is_of_kind : Call → Reply → Bool
is_of_kind Start (Started names) = true
is_of_kind (Receive area kind size no_data) (Given after text) = true
is_of_kind (Receive area kind size no_data) (NoData after) = true
is_of_kind (Receive area kind size no_data) (Refused after) = true
is_of_kind (Receive area kind size no_data) Waits = true
is_of_kind (Count area) (AreaIn after) = true
is_of_kind (Send area part item) (AreaOut after) = true
is_of_kind (SwitchInput on terminal area key) (AreaIn after) = true
is_of_kind (SwitchOutput on area key) (AreaOut after) = true
is_of_kind (Arrive stamp message) (Arrived number) = true
is_of_kind Held Done = true
is_of_kind (Stop reason) Done = true
is_of_kind (Finish reason) Done = true
is_of_kind _ _ = false
