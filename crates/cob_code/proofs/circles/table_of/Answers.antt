use Rattle.std.proofs.Common.{◌≡◌, length, ap, ◌∙◌, arith, rules}
use Rattle.cob_code.proofs.Marking.{all_marked, one_marked, written_back}
use Rattle.cob_code.proofs.circles.table_of.Goals as goal

pub performs-preserved : goal.performs-preserved
performs-preserved c =
    let len : length c.deref_mut.result.now ≡ c.args.limit = ap length c.deref_mut.ensures.value ∙ c.performs.invariant.square.0 in
    let long : length c.mark.new.table ≡ c.performs.table.len = c.mark.ensures.square.0 ∙ c.deref_mut.ensures.len in
    let back = written_back c.performs.table.len c.mark.new.table c.performs.table.items long in
    record {
      square = rw back (rw len at c.mark.ensures.square);
      marks = rw back
          (one_marked c.args.limit c.args.ranges.now c.performs.range-index _ c.deref_mut.result.now c.mark.new.table c.performs-test.true c.mark.ensures.kept
          (λ to lt inside. c.mark.ensures.marked to (omega (arith, lt, len)) inside) c.mark.ensures.only (rw c.deref_mut.ensures.value c.performs.invariant.marks));
    }

pub returns : goal.returns
returns c =
    let len : length c.deref_mut-2.result.now ≡ c.args.limit = ap length c.deref_mut-2.ensures.value ∙ c.performs.invariant.square.0 in
    let long : length c.close.new.table ≡ c.performs.table.len = search rules in
    rw (written_back c.performs.table.len c.close.new.table c.performs.table.items long)
    (all_marked c.args.limit c.args.ranges.now c.performs.range-index c.deref_mut-2.result.now c.close.new.table c.performs-test.false c.requires (rw c.deref_mut-2.ensures.value c.performs.invariant.marks)
    c.in_ok-close.ensures.kept (λ between lt. c.in_ok-close.ensures.closed between (omega (arith, lt, len))) c.in_ok-close.ensures.sound)
