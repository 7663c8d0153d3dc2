use Rattle.cob_lex.proofs.SpelledPlaces.{tokens_spelled}
use Rattle.cob_lex.proofs.laws.tokens_are_spelled.Goals as goal

pub returns : goal.returns
returns c = tokens_spelled
