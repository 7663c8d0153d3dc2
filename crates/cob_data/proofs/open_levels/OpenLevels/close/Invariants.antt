use Rattle.std.proofs.Common.{◌≡◌, length, reverse}
use Rattle.cob_data.specs.OpenLevels.{closed}
use Rattle.cob_data.proofs.open_levels.OpenLevels.close.Given as goal

abbrev pub invariant-levels : goal.invariant-levels
invariant-levels l = closed l.rank l.first (reverse l.self-inside.levels.items) ≡ closed l.rank l.rank (reverse l.initial.self-inside.levels.items)

abbrev pub decreases-levels : goal.decreases-levels
decreases-levels l = length l.self-inside.levels.items
