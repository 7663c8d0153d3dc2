use Rattle.std.proofs.Common.{◌≡◌, length, drop, nat_lt}
use Rattle.std.specs.List.{concat}
use Rattle.com_msg.proofs.rest.is_longer.Given as goal

-- what is still due decides against the pieces that are left
abbrev pub invariant-loop-piece : goal.invariant-loop-piece
invariant-loop-piece l =
    nat_lt l.due (length (concat (drop l.piece-index l.pieces))) ≡ nat_lt l.fn.reach (length (concat l.pieces))
