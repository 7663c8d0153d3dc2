-- The calls that verbs make, and what indicators end.
use Rattle.std.specs.Prelude.{◌≡◌, ◌≤◌, ℕ, List, length, Option, Some, None}
use Rattle.com_msg.specs.declared.sending.Advance.{Advance}
use Rattle.com_msg.specs.declared.sending.Part.{Part}
use Rattle.com_msg.specs.declared.sending.Part.TheVariants as part
use Rattle.com_events.specs.Calls.{IsWellFormed}
use Rattle.com_events.specs.declared.call.Call.{Call}
use Rattle.com_events.specs.declared.reply.Reply.{Reply}
use Rattle.com_events.specs.declared.reply.Reply.TheVariants.{Given}
use Rattle.cob_meaning.specs.Verbs.{Request}
use Rattle.cob_meaning.specs.Sound.{IsFit}
use Rattle.cob_run.specs.declared.sends.Ended.{Ended}
use Rattle.cob_run.specs.declared.sends.Ended.TheVariants as ended

-- what an indicator ends
abbrev pub ends : Ended → Advance → Part
ends ended.Segment = part.Esi
ends ended.Message = part.Emi
ends ended.Group = part.Egi

-- the call of a request, if its parts are in their ranges
abbrev pub IsCallOf : Option Request → Option Call → Type 0
IsCallOf None found = found ≡ None
IsCallOf (Some request) found = IsWellFormed request.call → found ≡ Some request.call

-- there is a request, and the reply fits its call
abbrev pub IsFitFor : Option Request → Reply → Type 0
IsFitFor None reply = ⊥
IsFitFor (Some request) reply = IsFit request.call reply

-- an area is as long as the one that it replaces
abbrev pub IsLongFor : ℕ → Option (List ℕ) → Type 0
IsLongFor size None = Unit {0}
IsLongFor size (Some area) = length area ≡ size

-- a text is no longer than its item
abbrev pub IsTextFor : ℕ → Reply → Type 0
IsTextFor size (Given area text) = length text ≤ size
IsTextFor size _ = Unit {0}
