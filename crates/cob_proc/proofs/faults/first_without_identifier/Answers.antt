use Rattle.std.proofs.Common.{◌≡◌, ◌∷◌, sym, ap, ◌∙◌, rules}
use Rattle.cob_lex.specs.declared.fault.SourceKind.TheVariants as faults
use Rattle.cob_forms.specs.Faults.{earlier, first, noted}
use Rattle.cob_proc.specs.Faults.{compares_constants, without_identifier}
use Rattle.cob_proc.proofs.Families.{one_more}
use Rattle.cob_proc.proofs.faults.first_without_identifier.Goals as goal

pub tokens-preserved : goal.tokens-preserved
tokens-preserved c =
    let e : c.tokens.rest.now ≡ c.in-Some.token.now ∷ c.in-Some.behind.now = search rules in
    record {
      so_far = rw (c.first_of-found.ensures, c.noted.ensures, c.compares_constants-constants.ensures)
          (ap (λ r. earlier (earlier c.tokens.found (first (noted (compares_constants r) faults.WrongKind c.in-Some.token.now))) (first (without_identifier c.in-Some.behind.now))) e
          ∙ one_more c.tokens.found (noted (compares_constants (c.in-Some.token.now ∷ c.in-Some.behind.now)) faults.WrongKind c.in-Some.token.now) (without_identifier c.in-Some.behind.now)
          ∙ ap (λ r. earlier c.tokens.found (first (without_identifier r))) (sym e) ∙ c.tokens.invariant.so_far);
    }
