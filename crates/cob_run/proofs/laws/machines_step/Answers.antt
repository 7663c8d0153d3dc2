use Rattle.cob_run.proofs.Simulation.{steps}
use Rattle.cob_run.proofs.laws.machines_step.Goals as goal

pub returns : goal.returns
returns c = λ program code starts names replies calls m compiled running h.
    steps program code starts compiled names replies calls m running h
