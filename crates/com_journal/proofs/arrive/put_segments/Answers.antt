use Rattle.std.proofs.Common.{◌++◌, ◌∷◌, length, sym, ◌∙◌}
use Rattle.std.specs.Fmt.{decimal}
use Rattle.com_text.specs.Counted.{counted_field}
use Rattle.com_journal.proofs.Spelled.{written_more}
use Rattle.com_journal.proofs.arrive.put_segments.Goals as goal

pub loop-segment-preserved : goal.loop-segment-preserved
loop-segment-preserved c =
    let segments = c.args.segments.now in
    let segment = c.segment-item.result in
    let start = c.args.out.now ++ 32 ∷ decimal (length segments) in
    c.in_ok-put_field.ensures ∙ (rw (c.as_bytes.ensures.same, c.loop-segment.invariant) (sym (written_more start counted_field segments c.loop-segment.segment-index segment segment c.loop-segment-test.true c.segment-item.is)))
