use Rattle.com_state.specs.State.{opening}
use Rattle.com_state.proofs.Fronts.{run_makes}
use Rattle.com_state.proofs.laws.a_run_is_legal.Goals as goal

pub returns : goal.returns
returns c = λ net calls history last ran. run_makes (opening net) calls history last ran
