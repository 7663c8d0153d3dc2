use Rattle.std.proofs.Common.{◌≤◌, ◌<◌, inl, inr, arith}
use Rattle.cob_code.proofs.Narrowing.{in_range}
use Rattle.cob_code.proofs.circles.mark.Goals as goal

pub returns-clause-only : goal.returns-clause-only
returns-clause-only c to from h =
    elim (c.paragraphs.invariant.only to from h) [
      | inl before ↦ inl before
      | inr now ↦ (let begun : c.args.range.first < c.paragraphs.to = omega (arith, now.0, now.1) in
          let last : to ≤ c.args.range.last = omega (arith, now.0, c.paragraphs.invariant.end begun) in
          inr (in_range c.args.range to now.1 last, now.2))
    ]
