-- How many statements there are in a statement, itself counted: the measure of a walk through them.
use Rattle.std.proofs.Common.{◌≡◌, ℕ, zero, suc, arith, ◌+◌, ◌*◌, ◌<◌, ◌≤◌, Bool, List, [], ◌∷◌, length, get_or, sym, ap, ◌∙◌, refl}
use Rattle.std.specs.Prelude.{Vec}
use Rattle.std.specs.Global.{Global}
use Rattle.cob_forms.specs.declared.written.Name.{Name}
use Rattle.cob_forms.specs.declared.written.Position.{Position}
use Rattle.cob_proc.specs.declared.tree.Condition.{Condition}
use Rattle.cob_proc.specs.declared.tree.Identifier.{Identifier}
use Rattle.cob_proc.specs.declared.tree.Statement.{Statement}
use Rattle.cob_proc.specs.declared.tree.Statement.TheVariants.{If, Receive}
use Rattle.cob_proc.specs.Trees.{Tree, plain, branches, receives, Block, none, lead}
use Rattle.cob_flat.specs.inner.Written.{written, block_by}
use Rattle.cob_flat.proofs.Rows.{if_tree, receive_tree}

abbrev mutual
  pub tree_size : Tree → ℕ
  tree_size (plain statement) = 1
  tree_size (branches position condition one other) = 1 + (block_size one + block_size other)
  tree_size (receives cd segment into no_data) = 1 + block_size no_data

  pub block_size : Block → ℕ
  block_size none = 0
  block_size (lead statement others) = tree_size statement + block_size others

-- a statement is no larger than those that it is among
pub each_smaller : (all : List Statement) (i : ℕ) (d : Statement) → i < length all → tree_size (written (get_or all i d)) ≤ block_size (block_by all)
each_smaller [] i d lt = let never : ⊥ = omega arith in absurd never
each_smaller (one ∷ others) zero d lt = omega arith
each_smaller (one ∷ others) (suc i) d lt = omega (arith, each_smaller others i d (omega (arith, lt)))

-- the statements of an IF are smaller than the IF
pub holds_smaller : (s : Statement) (p : Position) (c : Condition) (a b : Vec Statement Global) (list : List Statement) → s ≡ If p c a b → list ≡ a.items → block_size (block_by list) < tree_size (written s)
holds_smaller s p c a b list e same = omega (arith, ap tree_size (if_tree s p c a b list b.items e same refl))

pub otherwise_smaller : (s : Statement) (p : Position) (c : Condition) (a b : Vec Statement Global) (list : List Statement) → s ≡ If p c a b → list ≡ b.items → block_size (block_by list) < tree_size (written s)
otherwise_smaller s p c a b list e same = omega (arith, ap tree_size (if_tree s p c a b a.items list e refl same))

-- so are those of a RECEIVE
pub no_data_smaller : (s : Statement) (cd : Name) (segment : Bool) (into : Identifier) (a : Vec Statement Global) (list : List Statement) → s ≡ Receive cd segment into a → list ≡ a.items → block_size (block_by list) < tree_size (written s)
no_data_smaller s cd segment into a list e same = omega (arith, ap tree_size (receive_tree s cd segment into a list e same))
