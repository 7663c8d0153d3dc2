use Rattle.cob_data.proofs.Joined.{stopped}
use Rattle.cob_data.proofs.division.first_fault_before_stop.Goals as goal

pub returns : goal.returns
returns c =
    stopped c.args.tokens.now c.split_wanted.result.0.now c.args.stop.left c.in_ok-found.found c.split_wanted.result.1 c.first_with.result
    c.split_wanted.ensures.front c.split_wanted.ensures.wanted c.in_ok-found.ensures c.first_with.ensures
