use Rattle.std.proofs.Common.{drop}
use Rattle.std.specs.List.{AllByRecursion}
use Rattle.cob_meaning.specs.Checked.{IsCheckedSimple}
use Rattle.cob_flat.specs.inner.Operands.{IsPartOf}
use Rattle.cob_flat.proofs.Each.{AreMade}
use Rattle.cob_flat.proofs.resolve.parts.Given as goal

abbrev pub invariant-simples : goal.invariant-simples
invariant-simples l = record {
  checked : AllByRecursion (IsCheckedSimple l.names) (drop l.simple-index l.simples);
  made : AreMade (IsPartOf l.names) l.simples (drop l.simple-index l.simples) l.parts.items;
}
