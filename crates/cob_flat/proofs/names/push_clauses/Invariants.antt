use Rattle.std.proofs.Common.{◌≡◌, ◌++◌, drop}
use Rattle.cob_flat.specs.inner.Referents.{clause_names, listed}
use Rattle.cob_flat.proofs.names.push_clauses.Given as goal

abbrev pub invariant-clauses : goal.invariant-clauses
invariant-clauses l =
    listed l.entries.items ++ clause_names l.area (drop l.clause-index l.clauses) ≡ listed l.initial.entries.items ++ clause_names l.area l.clauses
