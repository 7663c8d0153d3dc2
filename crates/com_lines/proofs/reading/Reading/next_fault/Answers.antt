use Rattle.std.proofs.Common.{◌≡◌, true, refl, sym, ◌∙◌}
use Rattle.com_lines.specs.inner.Readings.{holds_return}
use Rattle.com_lines.proofs.Stops.{stop-before, stop-here}
use Rattle.com_lines.proofs.reading.Reading.next_fault.Goals.{else-holds_return-via-then-holds_return+else-byte-ne-LINE_FEED, else-holds_return-via-else-holds_return}
use Rattle.com_lines.proofs.reading.Reading.next_fault.Goals as goal

pub returns-then-byte-ne-LINE_FEED-clause-fault : goal.returns-then-byte-ne-LINE_FEED-clause-fault
returns-then-byte-ne-LINE_FEED-clause-fault c =
    let holds : holds_return c.args.self.now ≡ true = cc in
    stop-before c.args.self.now c.args.byte _ c.requires.safe holds c.if-byte-ne-LINE_FEED.true refl refl

pub returns-in-Some-clause-fault : goal.returns-in-Some-clause-fault
returns-in-Some-clause-fault c =
    let behind = λ (holds : holds_return c.args.self.now ≡ true). elim c.else-holds_return.branch as (λ _. c.args.byte ≡ 10) [
      | else-holds_return-via-then-holds_return+else-byte-ne-LINE_FEED w ↦ w.if-byte-ne-LINE_FEED.false
      | else-holds_return-via-else-holds_return w ↦ absurd cc
    ] in
    stop-here c.args.self.now c.args.byte c.in-Some.kind c.requires.safe (sym c.next_kind.ensures ∙ c.in-Some.is) behind
