-- What the reply to START says.
use Rattle.std.specs.Prelude.{Some}
use Rattle.com_events.specs.declared.reply.Reply.{Reply}
use Rattle.com_events.specs.declared.reply.Reply.TheVariants.{Started as StartedReply}
use Rattle.com_shared.specs.declared.start.Started.{Started}
use Rattle.com_shared.specs.declared.start.Started.TheVariants as started

-- names, where the unit has a schedule
abbrev pub started_in : Reply → Started
started_in (StartedReply (Some names)) = started.Named names
started_in _ = started.Plain
