use Rattle.std.proofs.Common.{◌≡◌, ◌∷◌, ◌++◌, map, sym, ap, ◌∙◌, append_assoc, rules}
use Rattle.cob_proc.specs.Faults.{name_behind}
use Rattle.cob_proc.proofs.Families.{names_behind, one_name}
use Rattle.cob_proc.proofs.faults.paragraph_names.Goals as goal

pub tokens-preserved : goal.tokens-preserved
tokens-preserved c =
    let e : c.tokens.rest.now ≡ c.in-Some.before.now ∷ c.in-Some.behind.now = search rules in
    let front = map (λ t. t.now) c.tokens.names.items in
    record {
      same = ap (λ xs. xs ++ names_behind c.in-Some.behind.now) c.in_ok-push_name.ensures ∙ append_assoc front (name_behind c.in-Some.before.now c.in-Some.behind.now) (names_behind c.in-Some.behind.now)
          ∙ ap (λ ys. front ++ ys) (one_name c.in-Some.before.now c.in-Some.behind.now) ∙ ap (λ r. front ++ names_behind r) (sym e) ∙ c.tokens.invariant.same;
    }
