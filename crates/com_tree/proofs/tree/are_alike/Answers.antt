use Rattle.std.proofs.Common.{◌<◌, ◌≤◌, arith}
use Rattle.com_tree.proofs.Shaped.{same_shapes, one_more}
use Rattle.com_tree.proofs.tree.are_alike.Goals as goal

pub loop-at-preserved : goal.loop-at-preserved
loop-at-preserved c =
    one_more c.args.rows.now c.args.others.now c.loop-at.at c.index-rows-at.result c.index-others-at.result c.loop-at-test.true (omega (arith, c.loop-at-test.true, c.if-rows-others.false)) c.index-rows-at.is c.index-others-at.is
    (c.is_alike.ensures c.if-not-is_alike.false) c.loop-at.invariant

pub returns : goal.returns
returns c = λ yes. same_shapes c.args.rows.now c.args.others.now c.if-rows-others.false (λ at within. c.loop-at.invariant at (omega (arith, within, c.loop-at-test.false)))
