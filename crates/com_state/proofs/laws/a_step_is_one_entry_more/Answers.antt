use Rattle.com_state.proofs.Fronts.{leads_more}
use Rattle.com_state.proofs.laws.a_step_is_one_entry_more.Goals as goal

pub returns : goal.returns
returns c = λ first S next history entry leads stepped. leads_more first history S next entry leads stepped
