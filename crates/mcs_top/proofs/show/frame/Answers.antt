use Rattle.std.proofs.Common.{[], Err, ap}
use Rattle.mcs_top.proofs.Framing.{stands_for, ends_long, ends_faulty, ends_end, ends_bad, whole_piece, no_fault}
use Rattle.mcs_top.proofs.show.frame.Goals as goal

pub returns-in-Err-Fault : goal.returns-in-Err-Fault
returns-in-Err-Fault c =
    let stands = stands_for c.args.framing c.feed.new.self c.within_limit.result.now c.args.into.now c.feed.new.into c.requires (c.feed.ensures.stands c.args.framing [] [] c.new-framer.ensures.stands) in
    ends_faulty c.args.framing c.args.input.now c.within_limit.result.now c.feed.new.into c.feed.new.self c.in-Err-Fault.fault c.within_limit.ensures
    (c.in-Err-Fault.ensures.kept c.in-Err-Fault.fault (ap Err c.in-Err-Fault.field-0-is)) stands

pub returns-then-input-gt-FILE_LIMIT : goal.returns-then-input-gt-FILE_LIMIT
returns-then-input-gt-FILE_LIMIT c =
    let stands = stands_for c.args.framing c.feed.new.self c.within_limit.result.now c.args.into.now c.feed.new.into c.requires (c.feed.ensures.stands c.args.framing [] [] c.new-framer.ensures.stands) in
    ends_long c.args.framing c.args.input.now c.within_limit.result.now c.feed.new.into c.feed.new.self c.if-input-gt-FILE_LIMIT.true c.within_limit.ensures c.in-Ok.ensures.going stands
    (λ fault settled. no_fault ((c.in-Ok.ensures.fault c.args.framing [] [] c.new-framer.ensures.stands fault (λ h. h)).1 settled))

pub returns-in-Ok-finish : goal.returns-in-Ok-finish
returns-in-Ok-finish c =
    let stands = stands_for c.args.framing c.feed.new.self c.within_limit.result.now c.args.into.now c.feed.new.into c.requires (c.feed.ensures.stands c.args.framing [] [] c.new-framer.ensures.stands) in
    let whole = whole_piece c.args.input.now c.within_limit.result.now c.if-input-gt-FILE_LIMIT.false c.within_limit.ensures in
    ends_end c.args.framing c.args.input.now c.within_limit.result.now c.feed.new.into c.finish.new.into c.if-input-gt-FILE_LIMIT.false whole
    (c.in-Ok-finish.ensures.whole c.args.framing c.within_limit.result.now c.feed.new.into stands)

pub returns-in-Err-Fault-finish : goal.returns-in-Err-Fault-finish
returns-in-Err-Fault-finish c =
    let stands = stands_for c.args.framing c.feed.new.self c.within_limit.result.now c.args.into.now c.feed.new.into c.requires (c.feed.ensures.stands c.args.framing [] [] c.new-framer.ensures.stands) in
    let whole = whole_piece c.args.input.now c.within_limit.result.now c.if-input-gt-FILE_LIMIT.false c.within_limit.ensures in
    let frames = c.in-Err-Fault-finish.ensures.fault c.in-Err-Fault-finish.fault (ap Err c.in-Err-Fault-finish.field-0-is) c.args.framing c.within_limit.result.now c.feed.new.into stands in
    ends_bad c.args.framing c.args.input.now c.within_limit.result.now c.finish.new.into c.in-Err-Fault-finish.fault c.if-input-gt-FILE_LIMIT.false whole (rw c.in-Err-Fault-finish.ensures.same frames)
