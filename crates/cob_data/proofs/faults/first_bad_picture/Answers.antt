use Rattle.std.proofs.Common.{◌∙◌}
use Rattle.cob_lex.specs.declared.fault.SourceKind.TheVariants as faults
use Rattle.cob_data.proofs.Firsts.{bad_picture, test_at}
use Rattle.cob_data.proofs.faults.first_bad_picture.Goals as goal

pub tokens-preserved : goal.tokens-preserved
tokens-preserved c =
    rw (c.first_of-found.ensures, c.noted.ensures, c.is_bad_picture-is_bad.ensures)
    (test_at bad_picture faults.BadPicture c.tokens.found c.args.tokens.now c.tokens.token-index c.token-item.result c.tokens-test.true c.token-item.is ∙ c.tokens.invariant)
