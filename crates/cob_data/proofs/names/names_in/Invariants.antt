use Rattle.std.proofs.Common.{◌≡◌, ◌++◌, drop}
use Rattle.cob_data.specs.Faults.{names_in}
use Rattle.cob_data.proofs.NamePasses.{shown}
use Rattle.cob_data.proofs.names.names_in.Given as goal

abbrev pub invariant-entries : goal.invariant-entries
invariant-entries l = shown l.names.items ++ names_in (drop l.entry-index l.entries) ≡ names_in l.entries
