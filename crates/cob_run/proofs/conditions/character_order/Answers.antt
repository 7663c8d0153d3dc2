use Rattle.std.proofs.Common.{refl}
use Rattle.cob_meaning.specs.Conditions.{character_order}
use Rattle.cob_run.specs.inner.Contents.{shown}
use Rattle.cob_run.proofs.Comparing.{less_here, greater_here, equal_here, over}
use Rattle.cob_run.proofs.conditions.character_order.Goals as goal

pub loop-at-init : goal.loop-at-init
loop-at-init c = refl

pub returns-then-one-other : goal.returns-then-one-other
returns-then-one-other c =
    less_here (shown c.args.left) (shown c.args.right) c.own_length-left_length.result c.own_length-right_length.result c.max-at-end.result c.loop-at.at c.character_at-one.result c.character_at-other.result (character_order (shown c.args.left) (shown c.args.right)) c.own_length-left_length.ensures c.own_length-right_length.ensures c.max-at-end.ensures c.loop-at.invariant
    c.loop-at-test.true c.character_at-one.ensures c.character_at-other.ensures c.if-one-other.true

pub returns-then-other-one : goal.returns-then-other-one
returns-then-other-one c =
    greater_here (shown c.args.left) (shown c.args.right) c.own_length-left_length.result c.own_length-right_length.result c.max-at-end.result c.loop-at.at c.character_at-one.result c.character_at-other.result (character_order (shown c.args.left) (shown c.args.right)) c.own_length-left_length.ensures c.own_length-right_length.ensures c.max-at-end.ensures c.loop-at.invariant
    c.loop-at-test.true c.character_at-one.ensures c.character_at-other.ensures c.if-one-other.false c.if-other-one.true

pub loop-at-preserved : goal.loop-at-preserved
loop-at-preserved c =
    equal_here (shown c.args.left) (shown c.args.right) c.own_length-left_length.result c.own_length-right_length.result c.max-at-end.result c.loop-at.at c.character_at-one.result c.character_at-other.result (character_order (shown c.args.left) (shown c.args.right)) c.own_length-left_length.ensures c.own_length-right_length.ensures c.max-at-end.ensures c.loop-at.invariant
    c.loop-at-test.true c.character_at-one.ensures c.character_at-other.ensures c.if-one-other.false c.if-other-one.false

pub returns : goal.returns
returns c =
    over (shown c.args.left) (shown c.args.right) c.own_length-left_length.result c.own_length-right_length.result c.max-at-end.result c.loop-at.at 0 0 (character_order (shown c.args.left) (shown c.args.right)) c.own_length-left_length.ensures c.own_length-right_length.ensures c.max-at-end.ensures c.loop-at.invariant
    c.loop-at-test.false
