use Rattle.std.proofs.Common.{sym, ◌∙◌, ap}
use Rattle.cob_data.specs.Clauses.{all_clauses}
use Rattle.cob_data.proofs.EntryLaws.{is_nil, not_empty, next_clause, no_next_clause}
use Rattle.cob_data.proofs.cds.Clauses.next.Goals as goal

pub returns-then-is_empty : goal.returns-then-is_empty
returns-then-is_empty c =
    let none = is_nil c.split_at.result.1.now c.is_empty.result c.is_empty.ensures c.if-is_empty.true in
    (sym c.self.view_is ∙ no_next_clause c.self.inside.rest.now c.split_at.result.1.now c.clause_length.result c.clause_length.ensures.length none c.split_at.ensures.back, ap all_clauses none)

pub returns : goal.returns
returns c =
    sym c.self.view_is
    ∙ next_clause c.self.inside.rest.now c.split_at.result.0.now c.split_at.result.1.now c.clause_length.result c.clause_length.ensures.length c.split_at.ensures.front c.split_at.ensures.back
    (not_empty _ c.is_empty.result c.is_empty.ensures c.if-is_empty.false)
