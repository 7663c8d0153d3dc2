use Rattle.std.proofs.Common.{◌≡◌, rules, length, take, ◌-◌, ap, ◌∙◌}
use Rattle.std.specs.List.{suffix_len}
use Rattle.std.proofs.lemmas.Iterator.Adapters.{YieldsList-from_rev_slice}
use Rattle.std.proofs.lemmas.Iterator.Consumers.{YieldsList-at, count_from_yields_List}
use Rattle.std.proofs.lemmas.Iterator.Search.{YieldsList-from_take_while}
use Rattle.std.proofs.lemmas.List.Folds.{length-prefix_len}
use Rattle.std.specs.Slice.Iter.{iter_rest}
use mathlib.Core.List.{reverse}
use borrow.Author.Tests.{tests}
use Rattle.com_send.specs.Keys.{is_space}
use Rattle.com_send.proofs.destination.trimmed.Goals as goal

pub returns : goal.returns
returns c =
    let key = c.args.key.now in
    let backwards = YieldsList-at c.take_while.ensures.source (YieldsList-from_rev_slice key (ap iter_rest c.rev.ensures.source ∙ c.iter.ensures.rest)) in
    let spaces : c.count-spaces.result ≡ suffix_len is_space key =
    count_from_yields_List c.take_while.result c.count-spaces.result c.count-spaces.ensures.ran
    (YieldsList-from_take_while _ is_space backwards c.take_while.ensures.closure c.take_while.ensures.done (λ x b q k. search (rules, tests)))
    ∙ length-prefix_len is_space (reverse key) in
    ap (λ n. take (length key - n) key) spaces
