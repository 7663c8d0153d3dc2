use Rattle.std.proofs.Common.{◌≡◌, true, drop}
use Rattle.std.specs.List.{list_all}
use Rattle.cob_data.specs.Clauses.{or_one}
use Rattle.cob_data.specs.Layout.{table_of}
use Rattle.cob_data.specs.Occurrences.{is_table_right}
use Rattle.cob_data.proofs.opening.occurrences.Given as goal

abbrev pub invariant-clauses : goal.invariant-clauses
invariant-clauses l = record {
  left : or_one (table_of (drop l.clause-index l.clauses)) ≡ or_one (table_of l.clauses);
  right : list_all is_table_right (drop l.clause-index l.clauses) ≡ true;
}
