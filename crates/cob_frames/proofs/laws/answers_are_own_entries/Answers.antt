use Rattle.std.proofs.Common.{[], ◌∷◌, ◌++◌}
use Rattle.cob_meaning.specs.Meaning.{meaning}
use Rattle.cob_frames.proofs.EntrySteps.{answers, grown_by}
use Rattle.cob_frames.proofs.laws.answers_are_own_entries.Goals as goal

pub returns : goal.returns
returns c = λ party program names replies entries call reply o is answer wanted.
    let takes = c.each_call_takes_a_reply.ensures in
    answers party program names replies entries o call reply is answer
    (grown_by (meaning program names replies) (meaning program names (replies ++ reply ∷ []))
    call replies reply wanted (c.more_replies_go_on.ensures program names replies [] reply)
    (takes program names replies) (takes program names (replies ++ reply ∷ [])))
