use Rattle.std.proofs.Common.{sym, ◌∙◌}
use Rattle.cob_data.proofs.CountedLaws.{bad_next, not_bad_next}
use Rattle.cob_data.proofs.records.has_bad.Goals as goal

pub returns-then-is_bad_counted : goal.returns-then-is_bad_counted
returns-then-is_bad_counted c =
    bad_next c.loop-item.cover _ c.loop-item.item-index c.item-item.result c.args.items.now c.loop-item-test.true c.item-item.is
    (sym c.is_bad_counted.ensures ∙ c.if-is_bad_counted.true) c.loop-item.invariant

pub loop-item-preserved : goal.loop-item-preserved
loop-item-preserved c =
    rw c.cover_behind-cover.ensures
    (not_bad_next c.loop-item.cover _ c.loop-item.item-index c.item-item.result c.args.items.now c.loop-item-test.true c.item-item.is
    (sym c.is_bad_counted.ensures ∙ c.if-is_bad_counted.false) c.loop-item.invariant)
