use Rattle.std.proofs.Common.{◌≡◌, ◌&&◌, drop}
use Rattle.std.specs.Prelude.{option_map}
use Rattle.std.specs.List.{AllByRecursion, list_all}
use Rattle.cob_flat.specs.Effects.{parts_by}
use Rattle.cob_run.specs.Within.{IsPartIn, sizes}
use Rattle.cob_run.proofs.conditions.all_hold.Given as goal

-- what is left decides, with what was found so far
abbrev pub invariant-parts : goal.invariant-parts
invariant-parts l = record {
  within : AllByRecursion (IsPartIn (sizes l.areas)) (drop l.part-index l.parts);
  so : option_map (λ left. l.all && list_all (λ holds. holds) left) (parts_by (drop l.part-index l.parts) l.areas) ≡ option_map (list_all (λ holds. holds)) (parts_by l.parts l.areas);
}
