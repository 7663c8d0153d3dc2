-- Choosing child by child, for the private functions that do it.
use Rattle.std.specs.Prelude.{ℕ, Option, Some, None, if◌then◌else◌}
use Rattle.com_tree.specs.declared.tree.Choose.{Choose}
use Rattle.com_tree.specs.declared.tree.Choose.TheVariants.{Ordered, Oldest}
use Rattle.com_tree.specs.NextLeaf.{is_later}

-- the choice by that of one child and that of the children behind it
abbrev pub better : Choose → (ℕ → Option ℕ) → Option ℕ → Option ℕ → Option ℕ
better choose first None behind = behind
better choose first (Some leaf) None = Some leaf
better Ordered first (Some leaf) (Some other) = Some leaf
better Oldest first (Some leaf) (Some other) =
    if is_later first leaf other then Some other else Some leaf
