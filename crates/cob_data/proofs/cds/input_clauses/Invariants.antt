use Rattle.std.proofs.Common.{◌≡◌, ◌++◌, length}
use Rattle.cob_data.specs.Clauses.{clauses_of}
use Rattle.cob_data.specs.Divisions.{input_clauses}
use Rattle.cob_data.proofs.cds.input_clauses.Given as goal

abbrev pub invariant-clauses : goal.invariant-clauses
invariant-clauses l = l.list.items ++ input_clauses l.clauses ≡ input_clauses (clauses_of l.fn.entry)

abbrev pub decreases-clauses : goal.decreases-clauses
decreases-clauses l = length l.clauses
