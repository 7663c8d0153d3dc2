use Rattle.std.proofs.Common.{◌∙◌}
use Rattle.cob_lex.specs.declared.fault.SourceKind.TheVariants as faults
use Rattle.cob_data.proofs.Firsts.{is_initial, test_at}
use Rattle.cob_data.proofs.cd_faults.first_initial.Goals as goal

pub tokens-preserved : goal.tokens-preserved
tokens-preserved c =
    rw (c.first_of-found.ensures, c.noted.ensures, c.is_word-is_initial.ensures)
    (test_at is_initial faults.TwoInitial c.tokens.found c.args.tokens.now c.tokens.token-index c.token-item.result c.tokens-test.true c.token-item.is ∙ c.tokens.invariant)
