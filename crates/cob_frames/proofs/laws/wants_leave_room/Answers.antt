use Rattle.std.proofs.Common.{[], ◌∷◌, ◌++◌, ap, arith, length, length-append}
use Rattle.com_events.specs.declared.reply.Reply.TheVariants.{Done}
use Rattle.cob_meaning.specs.Meaning.{meaning, unit_limits}
use Rattle.cob_frames.proofs.EntrySteps.{grown_by}
use Rattle.cob_frames.proofs.laws.wants_leave_room.Goals as goal

pub returns : goal.returns
returns c = λ program names replies call wanted.
    let takes = c.each_call_takes_a_reply.ensures in
    let here = meaning program names replies in
    let there = meaning program names (replies ++ Done ∷ []) in
    let grown = grown_by here there call replies Done wanted
    (c.more_replies_go_on.ensures program names replies [] Done) (takes program names replies)
    (takes program names (replies ++ Done ∷ [])) in
    let most = c.calls_are_within_limits.ensures unit_limits program names (replies ++ Done ∷ []) in
    omega (arith, ap length grown, length-append here.calls (call ∷ []), most)
