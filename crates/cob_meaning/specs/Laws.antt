-- What is shown of what programs mean.
use Rattle.std.specs.Prelude.{◌≡◌, ◌≤◌, List, [], ◌∷◌, ◌++◌, length}
use Rattle.com_events.specs.declared.reply.Reply.{Reply}
use Rattle.cob_meaning.specs.Meaning.{Ending, Stopped, Wants, Meaning}
use Rattle.com_events.specs.Fronts.{IsPrefixOf}

-- What becomes of a meaning with one reply more, and any after it: what has stopped stays as it is,
-- and a call that was wanted is the next to be answered.
abbrev pub GoesOnFrom : Ending → Meaning → Meaning → Type 0
GoesOnFrom (Stopped reason) here there = there ≡ here
GoesOnFrom (Wants call) here there = IsPrefixOf (here.calls ++ call ∷ []) there.calls

-- the same, by how the first meaning ends
abbrev pub GoesOn : Meaning → Meaning → Type 0
GoesOn here there = GoesOnFrom here.ending here there

-- one reply is taken for each call, and all of them before another is wanted
abbrev pub TakesFrom : Ending → Meaning → List Reply → Type 0
TakesFrom (Stopped reason) here replies = length here.calls ≤ length replies
TakesFrom (Wants call) here replies = length here.calls ≡ length replies

-- the same, by how the meaning ends
abbrev pub Takes : Meaning → List Reply → Type 0
Takes here replies = TakesFrom here.ending here replies
