use Rattle.com_state.proofs.Runs.{legal_of_shown, shown_of_legal}
use Rattle.com_state.proofs.laws.shown_is_legal.Goals as goal

pub returns-clause-legal : goal.returns-clause-legal
returns-clause-legal c = legal_of_shown

pub returns-clause-shown : goal.returns-clause-shown
returns-clause-shown c = shown_of_legal
