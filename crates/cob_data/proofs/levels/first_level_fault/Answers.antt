use Rattle.std.proofs.Common.{[], sym, ap}
use Rattle.cob_forms.specs.Faults.{first}
use Rattle.cob_data.proofs.LevelLaws.{level_next, levels_tell}
use Rattle.cob_data.proofs.levels.first_level_fault.Goals as goal

pub items-init : goal.items-init
items-init c = rw (c.new-levels.ensures) (ap first (sym (levels_tell c.args.over_cd [] c.args.items.now)))

pub items-preserved : goal.items-preserved
items-preserved c =
    rw (c.first_of-found.ensures, c.level_fault.ensures, c.in_ok-under.ensures.under, c.in_ok-under.ensures.levels)
    (level_next c.args.over_cd c.items.found _ c.items.levels c.args.items.now c.items.item-index c.item-item.result c.items-test.true c.item-item.is c.items.invariant)
