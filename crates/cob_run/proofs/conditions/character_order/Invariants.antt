use Rattle.std.proofs.Common.{◌≡◌}
use Rattle.cob_meaning.specs.Conditions.{character_order}
use Rattle.cob_run.specs.inner.Contents.{shown}
use Rattle.cob_run.proofs.Comparing.{rest}
use Rattle.cob_run.proofs.conditions.character_order.Given as goal

-- what is left of both sides decides
abbrev pub invariant-loop-at : goal.invariant-loop-at
invariant-loop-at l = rest (shown l.left) (shown l.right) l.at ≡ character_order (shown l.left) (shown l.right)
