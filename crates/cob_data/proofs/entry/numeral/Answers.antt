use Rattle.cob_data.proofs.NumeralLaws.{numeral_of}
use Rattle.cob_data.proofs.entry.numeral.Goals as goal

pub returns : goal.returns
returns c = numeral_of c.args.digits.now c.number_of.result c.unwrap_or.result c.number_of.ensures.some c.number_of.ensures.number c.unwrap_or.ensures
