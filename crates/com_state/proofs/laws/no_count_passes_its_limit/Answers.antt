use Rattle.com_state.proofs.Counts.{limits_kept}
use Rattle.com_state.proofs.laws.no_count_passes_its_limit.Goals as goal

pub returns : goal.returns
returns c = limits_kept
