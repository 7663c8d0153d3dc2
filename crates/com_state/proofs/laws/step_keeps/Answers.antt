use Rattle.com_state.proofs.Stepped.{keeps}
use Rattle.com_state.proofs.laws.step_keeps.Goals as goal

pub returns : goal.returns
returns c = λ S next party call reply h. keeps S party call reply next h
