use Rattle.cob_meaning.proofs.Replies.{fronts_make}
use Rattle.cob_meaning.proofs.laws.fronts_are_of_the_program.Goals as goal

pub returns : goal.returns
returns c = λ program names verbs more end h. fronts_make program names verbs more h.calls
