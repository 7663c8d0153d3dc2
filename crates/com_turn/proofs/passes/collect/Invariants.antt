use Rattle.std.proofs.Common.{length}
use Rattle.com_turn.proofs.Collecting.{Collecting}
use Rattle.com_turn.proofs.passes.collect.Given as goal

abbrev pub invariant-loop-pass : goal.invariant-loop-pass
invariant-loop-pass g l = Collecting l.fn.board l.fn.passes.items l.passes.items l.seat

abbrev pub decreases-loop-pass : goal.decreases-loop-pass
decreases-loop-pass g l = length l.passes.items
