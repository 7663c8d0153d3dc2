use Rattle.cob_run.proofs.Calls.{stops}
use Rattle.cob_run.proofs.laws.machines_stop.Goals as goal

pub returns : goal.returns
returns c = λ program code names replies calls m reason stopped h.
    stops program code names replies calls m reason stopped h
