use Rattle.std.proofs.Common.{◌≤◌, length}
use Rattle.cob_forms.specs.Sorts.{is, reserved}
use Rattle.cob_forms.proofs.Lists.{Left}
use Rattle.cob_proc.specs.PartReaders.{joined, joined_part}
use Rattle.cob_proc.proofs.conditions.take_joined.Given as goal

abbrev pub invariant-turns : goal.invariant-turns
invariant-turns l = record {
  read : Left (is (reserved l.word)) (joined_part l.word) l.parts.items l.rest (joined l.word l.fn.first l.tokens);
  fewer : length l.rest ≤ length l.tokens;
}

abbrev pub decreases-turns : goal.decreases-turns
decreases-turns l = length l.rest
