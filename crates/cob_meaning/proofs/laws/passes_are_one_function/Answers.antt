use Rattle.cob_meaning.proofs.OneProgram.{one_reading}
use Rattle.cob_meaning.proofs.Readable.{has_reading}
use Rattle.cob_meaning.proofs.laws.passes_are_one_function.Goals as goal

pub returns : goal.returns
returns c = λ source. let h = has_reading source in (h.0, h.1, λ other k. one_reading source h.0 other h.1 k)
