use Rattle.std.proofs.Common.{◌≡◌, ◌++◌, drop}
use Rattle.std.specs.Prelude.{flat_map}
use Rattle.std.specs.List.{AllByRecursion}
use Rattle.cob_data.specs.Layout.{output_name}
use Rattle.cob_flat.specs.inner.Referents.{IsFieldIn, listed}
use Rattle.cob_flat.proofs.names.push_outputs.Given as goal

abbrev pub invariant-clauses : goal.invariant-clauses
invariant-clauses l = record {
  right : AllByRecursion IsFieldIn (drop l.clause-index l.clauses);
  listed : listed l.entries.items ++ flat_map (output_name l.area l.occurs) (drop l.clause-index l.clauses) ≡ listed l.initial.entries.items ++ flat_map (output_name l.area l.occurs) l.clauses;
}
