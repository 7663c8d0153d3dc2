use Rattle.std.proofs.Common.{rules}
use Rattle.cob_code.proofs.Narrowing.{between}
use Rattle.cob_code.proofs.sets.any_flag.Goals as goal

pub returns : goal.returns
returns c = search (rules, between c.args.flags.now c.args.first c.args.last c.min-past.result)
