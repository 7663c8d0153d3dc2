use Rattle.std.proofs.Common.{◌<◌, arith}
use Rattle.cob_data.specs.Levels.{rank}
use Rattle.cob_data.proofs.ItemLaws.{length_next}
use Rattle.cob_data.proofs.items.length_of.Goals as goal

pub others-preserved : goal.others-preserved
others-preserved c =
    let lower : rank c.args.item.now < rank c.other-item.result = omega (arith, c.if-rank.false, c.rank.ensures, c.rank-in-others.ensures) in
    record {
      left = length_next (rank c.args.item.now) c.others.length c.size-length-in-others.result _ c.others.other-index c.other-item.result c.args.others.now c.others-test.true c.other-item.is lower c.size-length-in-others.ensures.size c.others.invariant.left;
      most = omega (arith, c.others.invariant.most, c.size-length-in-others.ensures.most);
    }
