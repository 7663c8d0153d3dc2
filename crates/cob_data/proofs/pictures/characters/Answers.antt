use Rattle.std.proofs.Common.{arith}
use Rattle.cob_data.proofs.PictureLaws.{unit_next}
use Rattle.cob_data.proofs.pictures.characters.Goals as goal

pub units-preserved : goal.units-preserved
units-preserved c = record {
  left = unit_next 2001 c.units.total c.min-total.result c.count_at-count.result.0 c.count_at-count.result.1 c.args.unit c.in-Some.byte.now c.units.rest.now c.in-Some.behind.now c.split_at.result.1.now _
      c.in-Some.ensures.cases.0 c.if-byte-unit.false c.count_at-count.ensures.count c.count_at-count.ensures.counted c.min-total.ensures c.split_at.ensures.back c.units.invariant.left;
  most = omega (arith, c.min-total.ensures);
}
