use Rattle.std.proofs.Common.{sym, ap, ◌∙◌}
use Rattle.std.specs.Prelude.{option_and_then}
use Rattle.com_recv.specs.Incoming.{held_on, is_held_on}
use Rattle.com_recv.proofs.Places.{held_here, not_held, place_within}
use Rattle.com_recv.proofs.lists.held_between.Goals as goal

pub returns-in-Some : goal.returns-in-Some
returns-in-Some c =
    let held = c.args.held.now in
    let unit = c.args.unit in
    let found = held_here held unit c.loop-number.number c.args.past c.in-Some.at c.loop-number-test.true (sym c.held_on.ensures ∙ c.in-Some.is) in
    record {
      held = sym (ap (option_and_then (held_on held unit)) (sym c.loop-number.invariant ∙ found.0) ∙ found.1);
      within = place_within (is_held_on unit c.loop-number.number) held c.in-Some.at (sym c.held_on.ensures ∙ c.in-Some.is);
    }

pub loop-number-preserved : goal.loop-number-preserved
loop-number-preserved c =
    sym (not_held c.args.held.now c.args.unit c.loop-number.number c.args.past c.loop-number-test.true (sym c.held_on.ensures ∙ c.in_default.is)) ∙ c.loop-number.invariant
