use Rattle.cob_frames.proofs.UnitSteps.{takes}
use Rattle.cob_frames.proofs.laws.units_take_replies.Goals as goal

pub returns : goal.returns
returns c = λ program names replies request no_data progress reply h.
    takes program names replies request no_data reply progress h
