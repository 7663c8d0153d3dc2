use Rattle.std.proofs.Common.{◌≡◌, ℕ, List, Option, sym, ap, ◌∙◌}
use Rattle.std.specs.Prelude.{option_map}
use Rattle.com_tree.specs.declared.tree.TreeRow.{TreeRow}
use Rattle.com_tree.specs.declared.tree.Node.{Node}
use Rattle.com_tree.specs.NextLeaf.{next_leaf, choice, head_on}
use Rattle.com_tree.proofs.tree.Tree.next.Goals as goal

-- the leaf by the number that was found, over the rows that the tree shows
found_leaf : (rows shown : List TreeRow) (node : Node) (heads : List (Option ℕ)) (chosen found : Option ℕ) → shown ≡ rows → chosen ≡ choice 4 shown (head_on heads) node → chosen ≡ found
    → option_map (λ number. record { number = number }) found ≡ next_leaf rows node (head_on heads)
found_leaf rows shown node heads chosen found same is at =
    ap (option_map (λ number. record { number = number })) (sym at ∙ (is ∙ ap (λ r. choice 4 r (head_on heads) node) same))

pub returns-in-Some-clause-leaf : goal.returns-in-Some-clause-leaf
returns-in-Some-clause-leaf c = found_leaf c.args.self.now c.rows.result.now c.args.node c.args.heads.now c.choice.result _ c.rows.ensures.rows c.choice.ensures.choice c.in-Some.is

pub returns-in-None-clause-leaf : goal.returns-in-None-clause-leaf
returns-in-None-clause-leaf c = found_leaf c.args.self.now c.rows.result.now c.args.node c.args.heads.now c.choice.result _ c.rows.ensures.rows c.choice.ensures.choice c.in-None.is
