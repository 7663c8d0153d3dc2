use Rattle.std.proofs.Common.{refl}
use Rattle.cob_meaning.specs.Meaning.{unit_limits}
use Rattle.cob_meaning.proofs.laws.units_have_limits.Goals as goal

pub returns-clause-statements : goal.returns-clause-statements
unfolding unit_limits
returns-clause-statements c = refl

pub returns-clause-verbs : goal.returns-clause-verbs
unfolding unit_limits
returns-clause-verbs c = refl
