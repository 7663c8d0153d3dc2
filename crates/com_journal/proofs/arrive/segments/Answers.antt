use Rattle.std.proofs.Common.{◌≡◌, ◌+◌, ◌-◌, suc, Some, [], ◌∷◌, ◌++◌, sym, ap, ◌∙◌, arith, rules}
use Rattle.std.proofs.lemmas.Result.{err_from_is_err_and}
use Rattle.com_msg.specs.declared.message.TheConstants.{MAX_SEGMENT_LENGTH}
use Rattle.com_journal.specs.inner.Reading.{text_at, segments_at}
use Rattle.com_journal.proofs.Segments.{with_front, fails_along, more_read, none_read, all_read}
use Rattle.com_journal.proofs.arrive.segments.Goals as goal

pub returns-in_err-segment : goal.returns-in_err-segment
returns-in_err-segment c =
    let left : c.args.count - c.loop.counter ≡ suc (c.args.count - (c.loop.counter + 1)) = omega (arith, c.loop-test.true) in
    let failed = err_from_is_err_and c.from_residual.result c.from_residual.ensures.1 in
    rw (failed.1, failed.2) (fails_along c.in_err-segment.field-0.0 (text_at 0 MAX_SEGMENT_LENGTH c.loop.line) (segments_at c.args.count c.args.line.now) c.in_err-segment.ensures
    (λ none. sym c.loop.invariant ∙ (ap (λ k. with_front c.loop.segments (segments_at k c.loop.line)) left ∙ none_read (c.args.count - (c.loop.counter + 1)) c.loop.line c.loop.segments none)))

pub loop-preserved : goal.loop-preserved
loop-preserved c =
    let n = c.args.count - (c.loop.counter + 1) in
    let left : c.args.count - c.loop.counter ≡ suc n = omega (arith, c.loop-test.true) in
    let segment = c.in_ok-segment.segment in
    let read : text_at 0 MAX_SEGMENT_LENGTH c.loop.line ≡ Some (segment, c.text.new.self) = c.in_ok-segment.ensures in
    let pushed : c.push.new.self ≡ c.loop.segments ++ segment ∷ [] = search rules in
    rw pushed (sym (more_read n c.loop.line c.text.new.self segment c.loop.segments read)
    ∙ (ap (λ k. with_front c.loop.segments (segments_at k c.loop.line)) (sym left) ∙ c.loop.invariant))

pub returns : goal.returns
returns c =
    let none : c.args.count - c.loop.counter ≡ 0 = omega (arith, c.loop-test.false) in
    sym c.loop.invariant ∙ (ap (λ k. with_front c.loop.segments (segments_at k c.loop.line)) none ∙ all_read c.loop.line c.loop.segments)
