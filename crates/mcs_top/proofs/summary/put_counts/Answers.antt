use Rattle.std.proofs.Common.{◌≡◌, ℕ, List, ◌++◌, ap, ◌∙◌, append_assoc}
use Rattle.std.specs.Prelude.{codes}
use Rattle.mcs_top.specs.Outputs.{count_line}
use Rattle.mcs_top.proofs.summary.put_counts.Goals as goal

-- what was put behind, piece by piece
three_behind : (base first second third : List ℕ) → ((base ++ first) ++ second) ++ third ≡ base ++ (first ++ (second ++ third))
three_behind base first second third = append_assoc (base ++ first) second third ∙ append_assoc base first (second ++ third)

pub returns : goal.returns
returns c =
    let arrivals = count_line (codes "arrivals ") c.args.arrivals in
    let portions = count_line (codes "portions ") c.args.portions in
    let transmitted = count_line (codes "transmitted ") c.args.transmitted in
    c.in_ok-put_count-3.ensures ∙ (ap (λ out. out ++ transmitted) (c.in_ok-put_count-2.ensures ∙ ap (λ out. out ++ portions) c.in_ok-put_count.ensures)
    ∙ three_behind c.args.out.now arrivals portions transmitted)
