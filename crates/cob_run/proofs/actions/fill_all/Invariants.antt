use Rattle.std.proofs.Common.{◌≡◌, drop}
use Rattle.std.specs.List.{AllByRecursion}
use Rattle.cob_flat.specs.Effects.{filled_by}
use Rattle.cob_run.specs.Within.{IsSpotIn, sizes}
use Rattle.cob_run.specs.inner.Contents.{shown}
use Rattle.cob_run.proofs.actions.fill_all.Given as goal

-- the targets that are left decide
abbrev pub invariant-targets : goal.invariant-targets
invariant-targets l = record {
  within : AllByRecursion (IsSpotIn (sizes l.areas)) (drop l.target-index l.targets);
  same : sizes l.areas ≡ sizes l.initial.areas;
  filled : filled_by (shown l.content) (drop l.target-index l.targets) l.areas ≡ filled_by (shown l.content) l.targets l.initial.areas;
}
