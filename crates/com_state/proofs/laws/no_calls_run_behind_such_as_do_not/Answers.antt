use Rattle.com_state.specs.State.{opening}
use Rattle.com_state.proofs.Longer.{no_run_longer}
use Rattle.com_state.proofs.laws.no_calls_run_behind_such_as_do_not.Goals as goal

pub returns : goal.returns
returns c = λ net front behind none. no_run_longer (opening net) front behind none
