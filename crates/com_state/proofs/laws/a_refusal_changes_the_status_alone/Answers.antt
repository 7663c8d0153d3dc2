use Rattle.com_state.proofs.Refusals.{status_alone}
use Rattle.com_state.proofs.laws.a_refusal_changes_the_status_alone.Goals as goal

pub returns : goal.returns
returns c = λ S next party call reply status formed refusal h tells.
    status_alone S next party call reply status formed refusal h tells
