use Rattle.cob_code.specs.inner.Sets.{IsSquare}
use Rattle.cob_code.proofs.Marking.{AreMarked}
use Rattle.cob_code.proofs.circles.table_of.Given as goal

abbrev pub invariant-performs : goal.invariant-performs
invariant-performs l = record {
  square : IsSquare l.limit l.table.items;
  marks : AreMarked l.limit l.ranges l.range-index l.table.items;
}
