use Rattle.turn_tests.specs.Diaries.{IsAfter}
use Rattle.turn_tests.proofs.write_notes.Given as goal

abbrev pub invariant-loop-number : goal.invariant-loop-number
invariant-loop-number g l = IsAfter l.number l.fn.pass l.pass
