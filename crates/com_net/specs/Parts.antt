-- What a network is: the parts of it that callers see.
use Rattle.std.specs.Prelude.{ℕ, Bool, List}
use Rattle.com_tree.specs.declared.tree.TreeRow.{TreeRow}
use Rattle.com_net.specs.declared.net.Terminal.{Terminal}
use Rattle.com_net.specs.declared.net.UnitRow.{UnitRow}

-- terminals and units in written order, the nodes of the queues in preorder, a password for each
-- tree, and a flag for each leaf
pub record Parts : Type 0 where
  pub terminals : List Terminal
  pub tree : List TreeRow
  pub queue_passwords : List (List ℕ)
  pub leaf_on : List Bool
  pub units : List UnitRow
