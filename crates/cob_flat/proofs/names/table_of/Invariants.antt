use Rattle.std.proofs.Common.{◌≡◌, drop}
use Rattle.cob_data.specs.Layout.{table_of}
use Rattle.cob_flat.proofs.names.table_of.Given as goal

abbrev pub invariant-clauses : goal.invariant-clauses
invariant-clauses l = table_of (drop l.clause-index l.clauses) ≡ table_of l.clauses
