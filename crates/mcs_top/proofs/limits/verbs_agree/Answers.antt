use Rattle.std.proofs.Common.{refl}
use Rattle.cob_meaning.specs.Meaning.{unit_limits}
use Rattle.mcs_top.proofs.limits.verbs_agree.Goals as goal

pub returns : goal.returns
unfolding unit_limits
returns c = refl
