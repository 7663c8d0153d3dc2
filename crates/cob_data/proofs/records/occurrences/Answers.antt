use Rattle.std.proofs.Common.{arith}
use Rattle.cob_data.proofs.NumeralLaws.{numeral-lt}
use Rattle.cob_data.proofs.records.occurrences.Goals as goal

pub returns-in-Some-clause-most : goal.returns-in-Some-clause-most
returns-in-Some-clause-most c = omega (arith, c.numeral.ensures, numeral-lt c.as_bytes.result.now)
