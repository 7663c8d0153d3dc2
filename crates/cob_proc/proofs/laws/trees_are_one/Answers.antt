use Rattle.cob_proc.proofs.DivisionOnly.{one_tree}
use Rattle.cob_proc.proofs.laws.trees_are_one.Goals as goal

pub returns : goal.returns
returns c = one_tree
