use Rattle.std.proofs.Common.{◌∙◌}
use Rattle.cob_data.proofs.ClausePasses.{clause_next}
use Rattle.cob_data.proofs.SeenTexts.{known}
use Rattle.cob_data.proofs.cd_faults.first_clause_again.Goals as goal

pub clauses-preserved : goal.clauses-preserved
clauses-preserved c =
    let same = rw c.clause_word.ensures at c.in_ok-is_new.ensures.texts in
    rw (c.first_of-found.ensures, c.unless.ensures, c.in_ok-is_new.ensures.is_new, c.clause_word.ensures, c.first.ensures.value)
    (clause_next c.is_input-is_input.result c.clauses.clauses c.next.new.self c.in-Some.clause.now c.clauses.found (known c.clauses.words.keys) (known c.add_text.new.texts.keys) c.in-Some.ensures same ∙ c.clauses.invariant)
