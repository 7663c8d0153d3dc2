use Rattle.std.proofs.Common.{◌≡◌, drop}
use Rattle.cob_forms.specs.Faults.{earlier, first}
use Rattle.cob_data.specs.Faults.{clauses_twice}
use Rattle.cob_data.proofs.cd_faults.first_clause_twice.Given as goal

abbrev pub invariant-entries : goal.invariant-entries
invariant-entries l = earlier l.found (first (clauses_twice (drop l.entry-index l.entries))) ≡ first (clauses_twice l.entries)
