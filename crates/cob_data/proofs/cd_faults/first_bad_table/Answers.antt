use Rattle.std.proofs.Common.{◌∙◌}
use Rattle.cob_lex.specs.declared.fault.SourceKind.TheVariants as faults
use Rattle.cob_data.proofs.Firsts.{bad_number, tests_at}
use Rattle.cob_data.proofs.cd_faults.first_bad_table.Goals as goal

pub entries-preserved : goal.entries-preserved
entries-preserved c =
    rw (c.first_of-found.ensures, c.first_bad_number.ensures, c.cd_tokens.ensures)
    (tests_at bad_number faults.OverLimit c.entries.found c.args.entries.now c.entries.entry-index c.entry-item.result c.entries-test.true c.entry-item.is ∙ c.entries.invariant)
