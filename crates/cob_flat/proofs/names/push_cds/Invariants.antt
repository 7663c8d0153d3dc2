use Rattle.std.proofs.Common.{◌≡◌, ◌++◌, drop}
use Rattle.std.specs.Prelude.{flat_map}
use Rattle.std.specs.List.{AllByRecursion}
use Rattle.cob_data.specs.Layout.{cd_names}
use Rattle.cob_flat.specs.inner.Referents.{AreFieldsIn, listed}
use Rattle.cob_flat.proofs.names.push_cds.Given as goal

abbrev pub invariant-cds : goal.invariant-cds
invariant-cds l = record {
  fields : AllByRecursion (λ cd. AreFieldsIn cd.body) (drop l.cd-index l.cds);
  listed : listed l.entries.items ++ flat_map cd_names (drop l.cd-index l.cds) ≡ listed l.initial.entries.items ++ flat_map cd_names l.cds;
}
