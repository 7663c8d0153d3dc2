use Rattle.std.proofs.Common.{◌∙◌, sym, ap}
use Rattle.com_turn.proofs.Settling.{settled_item}
use Rattle.com_turn.proofs.turn.Turn.commit.Goals as goal

pub invariant_of-pass : goal.invariant_of-pass
invariant_of-pass g c =
    let e = c.commit.ensures.committed in (
      settled_item c.pass.inside.seat c.commit.new.seat c.args.entry.now e c.pass.invariant.0,
      c.pass.invariant.1 ∙ sym (ap (λ z. z.0.known.number) e),
      c.pass.invariant.2 ∙ sym (ap (λ z. z.0.active) e),
    )
