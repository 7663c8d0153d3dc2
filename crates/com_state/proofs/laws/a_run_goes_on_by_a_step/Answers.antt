use Rattle.com_state.specs.State.{opening}
use Rattle.com_state.proofs.Longer.{run_longer}
use Rattle.com_state.proofs.laws.a_run_goes_on_by_a_step.Goals as goal

pub returns : goal.returns
returns c = λ net calls who call history last ran. run_longer (opening net) calls (who, call) history last ran
