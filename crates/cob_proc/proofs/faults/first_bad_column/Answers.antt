use Rattle.std.proofs.Common.{◌≡◌, ◌∷◌, sym, ap, ◌∙◌, rules}
use Rattle.cob_forms.specs.Faults.{earlier, first}
use Rattle.cob_proc.proofs.Families.{columns_behind, one_column}
use Rattle.cob_proc.proofs.faults.first_bad_column.Goals as goal

pub tokens-preserved : goal.tokens-preserved
tokens-preserved c =
    let e : c.tokens.rest.now ≡ c.in-Some.before.now ∷ c.in-Some.behind.now = search rules in
    record {
      so_far = rw (c.first_of-found.ensures, c.column_fault_behind.ensures) (one_column c.tokens.found c.in-Some.before.now c.in-Some.behind.now ∙ ap (λ r. earlier c.tokens.found (first (columns_behind r))) (sym e) ∙ c.tokens.invariant.so_far);
    }
