use Rattle.cob_run.proofs.Calls.{takes}
use Rattle.cob_run.proofs.laws.machines_take_replies.Goals as goal

pub returns : goal.returns
returns c = λ program code names replies calls m reply request waiting is h.
    takes program code names replies calls m reply request waiting is h
