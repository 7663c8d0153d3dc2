use Rattle.cob_run.proofs.Weights.{step_less}
use Rattle.cob_run.proofs.laws.machines_come_to_a_call.Goals as goal

pub returns : goal.returns
returns c = step_less
