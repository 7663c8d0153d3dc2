use Rattle.std.proofs.Common.{rules, tests, is_some, sym, ◌∙◌}
use Rattle.std.proofs.lemmas.Iterator.{YieldsList-from_slice}
use Rattle.std.proofs.lemmas.Iterator.Search.{all_from_yields_List}
use Rattle.toml.specs.Data.{as_str}
use Rattle.toml.specs.View.{view}
use Rattle.com_net.proofs.Arrays.{all_strings}
use Rattle.com_net.proofs.values.are_strings.Goals as goal

pub returns : goal.returns
returns c =
    all_from_yields_List (λ value. is_some (as_str (view value))) _ _ c.all.result c.all.ensures.ran (YieldsList-from_slice c.args.values.now cc) (λ x b q k. search (rules, tests))
    ∙ sym (all_strings c.args.values.now)
