use Rattle.std.proofs.Common.{arith, rules}
use Rattle.cob_code.specs.inner.Sets.{once}
use Rattle.cob_code.proofs.Closing.{closes, sounds, stays}
use Rattle.cob_code.proofs.sets.close.Goals as goal

pub betweens-init : goal.betweens-init
betweens-init c = record {
  square = c.requires;
  kept = λ to from h. h;
  closed = λ between lt. absurd (omega (arith, lt));
  sound = λ to from h. once h;
}

pub betweens-preserved : goal.betweens-preserved
betweens-preserved c = record {
  square = search rules;
  kept = stays c.args.table.now c.betweens.table c.pass_over.new.table c.betweens.between c.in_ok-pass_over.ensures.each c.betweens.invariant.kept;
  closed = closes c.betweens.table c.pass_over.new.table c.betweens.between c.in_ok-pass_over.ensures.each c.betweens.invariant.closed;
  sound = sounds c.args.table.now c.betweens.table c.pass_over.new.table c.betweens.between c.in_ok-pass_over.ensures.each c.betweens.invariant.sound;
}
