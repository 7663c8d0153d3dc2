use Rattle.std.proofs.Common.{◌≡◌, ◌++◌, drop}
use Rattle.cob_code.specs.inner.Referents.{input_entries, listed}
use Rattle.cob_code.proofs.names.push_clauses.Given as goal

abbrev pub invariant-clauses : goal.invariant-clauses
invariant-clauses l = listed l.entries.items ++ input_entries (drop l.clause-index l.clauses) ≡ listed l.initial.entries.items ++ input_entries l.clauses
