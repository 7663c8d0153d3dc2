use Rattle.cob_meaning.proofs.Readable.{read}
use Rattle.cob_meaning.proofs.laws.sources_are_programs_or_have_a_fault.Goals as goal

pub returns : goal.returns
returns c = read
