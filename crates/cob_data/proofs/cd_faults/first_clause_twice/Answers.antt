use Rattle.std.proofs.Common.{◌∙◌}
use Rattle.cob_data.proofs.ClausePasses.{clauses_at}
use Rattle.cob_data.proofs.cd_faults.first_clause_twice.Goals as goal

pub entries-preserved : goal.entries-preserved
entries-preserved c =
    rw (c.first_of-found.ensures, c.in_ok-first_clause_again.ensures, c.cd_tokens.ensures)
    (clauses_at c.entries.found c.args.entries.now c.entries.entry-index c.entry-item.result c.entries-test.true c.entry-item.is ∙ c.entries.invariant)
