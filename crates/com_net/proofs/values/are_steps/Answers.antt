use Rattle.std.proofs.Common.{◌≡◌, ◌∙◌, sym, true, arith}
use Rattle.std.proofs.lemmas.Bool.Decides.{nat_tests}
use Rattle.toml.specs.View.{items_view}
use Rattle.com_net.specs.Values.{are_strings}
use Rattle.com_net.proofs.Arrays.{as_many_strings}
use Rattle.com_net.proofs.values.are_steps.Goals as goal

pub returns-then-values-ge1 : goal.returns-then-values-ge1
returns-then-values-ge1 c =
    let all : are_strings (items_view c.args.values.now) ≡ true = sym c.are_strings.ensures ∙ c.if-not-are_strings.false in
    let many = as_many_strings c.args.values.now all in
    rw (all, many) (grind (arith, nat_tests))
