use Rattle.mcs_top.proofs.command.mcs.Goals as goal

pub returns-clause-outcome : goal.returns-clause-outcome
returns-clause-outcome g c = c.tool.ensures.outcome

pub returns-clause-complete : goal.returns-clause-complete
returns-clause-complete g c = c.tool.ensures.complete
