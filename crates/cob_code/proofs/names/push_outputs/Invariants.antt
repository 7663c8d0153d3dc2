use Rattle.std.proofs.Common.{◌≡◌, ◌++◌, drop}
use Rattle.cob_code.specs.inner.Referents.{listed, output_entries}
use Rattle.cob_code.proofs.names.push_outputs.Given as goal

abbrev pub invariant-clauses : goal.invariant-clauses
invariant-clauses l = listed l.entries.items ++ output_entries l.occurs (drop l.clause-index l.clauses) ≡ listed l.initial.entries.items ++ output_entries l.occurs l.clauses
