use Rattle.std.proofs.Common.{take}
use Rattle.com_send.specs.Kept.{AreMarks}
use Rattle.com_send.proofs.areas.Named.new.Given as goal

-- those so far are marked
abbrev pub invariant-loop-destination : goal.invariant-loop-destination
invariant-loop-destination l = AreMarks (take l.destination-index l.found) l.marks
