use Rattle.com_state.proofs.Whole.{every_history}
use Rattle.com_state.proofs.laws.every_history_is_whole.Goals as goal

pub returns : goal.returns
returns c = λ net history legal. every_history net history legal
