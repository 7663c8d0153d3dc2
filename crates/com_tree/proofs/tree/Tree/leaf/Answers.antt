use Rattle.std.proofs.Common.{◌≡◌, ◌<◌, ◌≤◌, ◌+◌, true, false, length, take, get_or, refl, sym, ap, ◌∙◌, arith}
use Rattle.std.proofs.lemmas.Option.{slice_get_read}
use Rattle.std.proofs.lemmas.List.Sums.{count_by_more_yes}
use Rattle.com_tree.specs.Written.{is_leaf, leaf_count}
use Rattle.com_tree.specs.Places.{leaf_at}
use Rattle.com_tree.proofs.Branches.{fewer_before}
use Rattle.com_tree.proofs.tree.Tree.leaf.Goals as goal

pub returns-then-is_leaf-clause-within : goal.returns-then-is_leaf-clause-within
returns-then-is_leaf-clause-within c =
    let rows = c.rows-rows.result.now in
    let at = c.args.node.row in
    let row = c.index-rows-at.result in
    let within : at < length rows = omega (arith, c.requires, ap length c.rows-rows.ensures.rows) in
    let leaf : is_leaf (get_or rows at row) ≡ true = rw (← c.index-rows-at.is) (sym c.is_leaf.ensures ∙ c.if-is_leaf.true) in
    let more = count_by_more_yes is_leaf rows at row within leaf in
    let all : leaf_count (take (at + 1) rows) ≤ leaf_count c.args.self.now = rw (← c.rows-rows.ensures.rows) (fewer_before rows (at + 1)) in
    omega (arith, c.count_leaves-number.ensures, more, all)

pub returns-else-is_leaf-clause-leaf : goal.returns-else-is_leaf-clause-leaf
returns-else-is_leaf-clause-leaf c =
    let rows = c.args.self.now in
    let row = c.index-rows-at.result in
    let is : row ≡ get_or rows c.args.node.row row = rw c.rows-rows.ensures.rows at c.index-rows-at.is in
    let here = slice_get_read rows (length rows) c.args.node.row row refl c.requires is in
    let inner : is_leaf row ≡ false = sym c.is_leaf.ensures ∙ c.if-is_leaf.false in
    rw (here, inner, leaf_at) refl
