use Rattle.std.proofs.Common.{◌≡◌, drop}
use Rattle.cob_forms.specs.Faults.{earlier, first}
use Rattle.cob_data.specs.Faults.{bad_tables}
use Rattle.cob_data.proofs.cd_faults.first_bad_table.Given as goal

abbrev pub invariant-entries : goal.invariant-entries
invariant-entries l = earlier l.found (first (bad_tables (drop l.entry-index l.entries))) ≡ first (bad_tables l.entries)
