use Rattle.cob_run.proofs.Calls.{begins}
use Rattle.cob_run.proofs.laws.machines_begin.Goals as goal

pub returns : goal.returns
returns c = λ program code starts names compiled. begins program code starts compiled names
