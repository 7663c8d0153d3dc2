use Rattle.std.proofs.Common.{◌∙◌}
use Rattle.cob_data.proofs.ColumnSteps.{token_at}
use Rattle.cob_data.proofs.columns.Columns.pass_entry.Goals as goal

pub tokens-preserved : goal.tokens-preserved
tokens-preserved c = λ others.
    token_at c.tokens.begins c.tokens.columns.found c.pass-columns.result.found c.tokens.columns.line c.pass-columns.result.line c.args.entry.now c.tokens.token-index c.token-item.result others
    c.tokens-test.true c.token-item.is c.pass-columns.ensures.line c.pass-columns.ensures.found
    ∙ c.tokens.invariant others
