use Rattle.std.proofs.Common.{◌≡◌, ◌∷◌, ◌&&◌, length, sym, ap, ◌∙◌, codes, rules}
use Rattle.std.specs.Prelude.{nat_le}
use Rattle.cob_lex.specs.declared.fault.SourceKind.TheVariants as faults
use Rattle.cob_forms.specs.Sorts.{is, reserved}
use Rattle.cob_forms.specs.Faults.{earlier, first, noted}
use Rattle.cob_proc.specs.declared.limits.TheConstants.{MAX_IFS}
use Rattle.cob_proc.specs.Faults.{deep_ifs, open_behind}
use Rattle.cob_proc.proofs.Families.{one_more}
use Rattle.cob_proc.proofs.faults.first_deep_if.Goals as goal

pub tokens-preserved : goal.tokens-preserved
tokens-preserved c =
    let e : c.tokens.rest.now ≡ c.in-Some.token.now ∷ c.in-Some.behind.now = search rules in
    record {
      so_far = rw (c.first_of-found.ensures, c.noted.ensures, c.is_too_deep.ensures, c.in_ok-pass.ensures)
          (one_more c.tokens.found (noted (is (reserved (codes "IF")) c.in-Some.token.now && nat_le MAX_IFS (length c.tokens.ifs)) faults.OverLimit c.in-Some.token.now) (deep_ifs MAX_IFS (open_behind c.tokens.ifs c.in-Some.token.now) c.in-Some.behind.now)
          ∙ ap (λ r. earlier c.tokens.found (first (deep_ifs MAX_IFS c.tokens.ifs r))) (sym e) ∙ c.tokens.invariant.so_far);
    }
