use Rattle.std.proofs.Common.{◌≡◌, ◌++◌, drop}
use Rattle.cob_data.specs.Faults.{data_names}
use Rattle.cob_data.proofs.NamePasses.{shown}
use Rattle.cob_data.proofs.names.data_names.Given as goal

abbrev pub invariant-entries : goal.invariant-entries
invariant-entries l = shown l.names.items ++ data_names (drop l.entry-index l.entries) ≡ data_names l.entries
