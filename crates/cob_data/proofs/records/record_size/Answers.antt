use Rattle.std.proofs.Common.{arith}
use Rattle.cob_data.proofs.CountedLaws.{size_next}
use Rattle.cob_data.proofs.records.record_size.Goals as goal

pub loop-item-preserved : goal.loop-item-preserved
loop-item-preserved c = record {
  left = rw c.cover_behind-cover.ensures
      (size_next c.loop-item.cover c.loop-item.size c.counted_size-size.result _ c.loop-item.item-index c.item-item.result c.args.items.now c.loop-item-test.true c.item-item.is
      c.counted_size-size.ensures.size c.loop-item.invariant.left);
  most = omega (arith, c.loop-item.invariant.most, c.counted_size-size.ensures.most);
}
