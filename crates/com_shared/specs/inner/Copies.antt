-- The text of a reply, of which the entry and the caller have a copy each.
use Rattle.std.specs.Prelude.{ℕ, List, []}
use Rattle.com_events.specs.declared.call.Call.{Call}
use Rattle.com_events.specs.declared.call.Call.TheVariants.{Receive}
use Rattle.com_events.specs.declared.reply.Reply.{Reply}
use Rattle.com_events.specs.declared.reply.Reply.TheVariants.{Given}

-- the text that is given
abbrev pub text_in : Reply → List ℕ
text_in (Given area text) = text
text_in _ = []

-- how many characters a call asks for
abbrev pub size_of : Call → ℕ
size_of (Receive area kind size no_data) = size
size_of _ = 0
