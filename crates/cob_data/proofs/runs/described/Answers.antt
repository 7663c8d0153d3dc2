use Rattle.cob_data.proofs.HeaderLaws.{few_described}
use Rattle.cob_data.proofs.runs.described.Goals as goal

pub returns-clause-few : goal.returns-clause-few
returns-clause-few c = few_described c.entries.list.items _ c.args.tokens.now c.entries.invariant
