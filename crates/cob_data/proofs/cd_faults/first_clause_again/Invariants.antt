use Rattle.std.proofs.Common.{◌≡◌, [], length}
use Rattle.cob_forms.specs.Faults.{earlier, first}
use Rattle.cob_data.specs.Clauses.{clauses_of}
use Rattle.cob_data.specs.Faults.{clause_faults}
use Rattle.cob_data.proofs.SeenTexts.{known}
use Rattle.cob_data.proofs.cd_faults.first_clause_again.Given as goal

abbrev pub invariant-clauses : goal.invariant-clauses
invariant-clauses l = earlier l.found (first (clause_faults l.is_input (known l.words.keys) l.clauses)) ≡ first (clause_faults l.is_input [] (clauses_of l.fn.entry))

abbrev pub decreases-clauses : goal.decreases-clauses
decreases-clauses l = length l.clauses
