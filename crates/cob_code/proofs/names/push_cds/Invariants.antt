use Rattle.std.proofs.Common.{◌≡◌, ◌++◌, drop}
use Rattle.std.specs.Prelude.{flat_map}
use Rattle.cob_code.specs.inner.Referents.{cd_entries, listed}
use Rattle.cob_code.proofs.names.push_cds.Given as goal

abbrev pub invariant-cds : goal.invariant-cds
invariant-cds l = listed l.entries.items ++ flat_map cd_entries (drop l.cd-index l.cds) ≡ listed l.initial.entries.items ++ flat_map cd_entries l.cds
