use Rattle.std.proofs.Common.{◌≡◌, drop}
use Rattle.com_msg.specs.Portion.{drop_characters}
use Rattle.com_msg.proofs.rest.place_behind.Given as goal

-- what is still due goes off the pieces that are left
abbrev pub invariant-loop-segment : goal.invariant-loop-segment
invariant-loop-segment l = drop_characters l.due (drop l.segment l.pieces) ≡ drop_characters l.fn.reach l.pieces
