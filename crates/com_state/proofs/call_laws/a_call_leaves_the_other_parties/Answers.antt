use Rattle.com_state.proofs.Replying.{units_stay, terminals_stay}
use Rattle.com_state.proofs.call_laws.a_call_leaves_the_other_parties.Goals as goal

pub returns-clause-unit : goal.returns-clause-unit
returns-clause-unit c = units_stay

pub returns-clause-terminal : goal.returns-clause-terminal
returns-clause-terminal c = terminals_stay
