-- What has a text can be written.
use Rattle.std.proofs.Common.{ℕ, None, Some, Option, List, arith}
use Rattle.std.specs.Option.{IfSome}
use Rattle.com_text.specs.Counted.{IsCountable}
use Rattle.com_events.specs.declared.call.Call.{Call}
use Rattle.com_events.specs.declared.call.Call.TheVariants.{Start, Receive, Count, Send, SwitchInput, SwitchOutput, Arrive, Held, Stop, Finish}
use Rattle.com_events.specs.declared.reply.Reply.{Reply}
use Rattle.com_events.specs.declared.reply.Reply.TheVariants.{Started, Given, NoData, Refused, Waits, AreaIn, AreaOut, Arrived, Done}
use Rattle.com_events.specs.Calls.{IsItem, IsWellFormed, IsReplyTo}
use Rattle.com_journal.specs.inner.Writing.{AreCountable, IsCountableReply}

item_countable : (item : Option (List ℕ)) → IfSome item IsItem → IfSome item IsCountable
item_countable None h = tt
item_countable (Some item) h = omega (arith, h.2)

pub call_countable : (call : Call) → IsWellFormed call → AreCountable call
call_countable Start h = tt
call_countable (Receive area kind size no_data) h = tt
call_countable (Count area) h = tt
call_countable (Send area sent item) h = item_countable item h.2
call_countable (SwitchInput on terminal area key) h = omega (arith, h.1.1)
call_countable (SwitchOutput on area key) h = omega (arith, h.1.1)
call_countable (Arrive stamp message) h = λ k d within. omega (arith, h.1.limits.short k d within)
call_countable Held h = tt
call_countable (Stop reason) h = tt
call_countable (Finish reason) h = tt

pub reply_countable : (call : Call) (reply : Reply) → IsReplyTo call reply → IsCountableReply reply
reply_countable (Receive area kind size no_data) (Given after text) h = omega (arith, h.2)
reply_countable Start (Given after text) h = absurd h
reply_countable (Count area) (Given after text) h = absurd h
reply_countable (Send area sent item) (Given after text) h = absurd h
reply_countable (SwitchInput on terminal area key) (Given after text) h = absurd h
reply_countable (SwitchOutput on area key) (Given after text) h = absurd h
reply_countable (Arrive stamp message) (Given after text) h = absurd h
reply_countable Held (Given after text) h = absurd h
reply_countable (Stop reason) (Given after text) h = absurd h
reply_countable (Finish reason) (Given after text) h = absurd h
reply_countable call (Started names) h = tt
reply_countable call (NoData after) h = tt
reply_countable call (Refused after) h = tt
reply_countable call Waits h = tt
reply_countable call (AreaIn after) h = tt
reply_countable call (AreaOut after) h = tt
reply_countable call (Arrived number) h = tt
reply_countable call Done h = tt
