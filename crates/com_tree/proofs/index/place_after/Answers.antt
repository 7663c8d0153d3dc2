use Rattle.std.proofs.Common.{◌≡◌, ◌<◌, ◌≤◌, ◌+◌, ℕ, zero, suc, List, [], ◌∷◌, length, take, drop, get_or, ap, ◌∙◌, arith}
use Rattle.com_tree.specs.declared.tree.TreeRow.{TreeRow}
use Rattle.com_tree.specs.declared.index.Place.{Place}
use Rattle.com_tree.specs.Written.{leaf_count}
use Rattle.com_tree.specs.Places.{branch_of}
use Rattle.com_tree.proofs.Branches.{leaves_of_branch}
use Rattle.com_tree.proofs.Walks.{at_most_256}
use Rattle.com_tree.proofs.index.place_after.Goals as goal

-- the leaves under the node and those before are no more than 64
few : (c : goal.After-branch-branch) → leaf_count (take c.args.at c.args.rows.now) + leaf_count c.branch-branch.result.now ≤ 64
few c = rw c.branch-branch.ensures.branch (omega (arith, leaves_of_branch c.args.rows.now c.args.at, c.requires.written.leaves))

-- a node is in its own branch
some_branch : (rows : List TreeRow) (at : ℕ) → at < length rows → 1 ≤ length (branch_of (drop at rows))
some_branch [] at within = absurd (omega (arith, within))
some_branch (row ∷ rows) zero within = omega arith
some_branch (row ∷ rows) (suc at) within = some_branch rows at (omega (arith, within))

pub count_leaves-requires : goal.count_leaves-requires
count_leaves-requires c = omega (arith, few c)

pub overflow_add-result : goal.overflow_add-result
overflow_add-result c = omega (arith, few c.before, c.count_leaves.ensures, c.count_leaves-first.ensures)

pub overflow_cast-result : goal.overflow_cast-result
overflow_cast-result c = omega (arith, c.branch-branch.ensures.within, at_most_256 c.args.rows.now c.requires.written)

pub overflow_cast-result-2 : goal.overflow_cast-result-2
overflow_cast-result-2 c = omega (arith, c.apart_from.ensures.within, c.requires.at, c.requires.size, at_most_256 c.args.rows.now c.requires.written)

pub returns : goal.returns
returns c =
    let rows = c.args.rows.now in
    let branch = c.branch-branch.ensures.branch in
    record {
      first = c.count_leaves-first.ensures;
      past = omega (arith, c.count_leaves-first.ensures, c.count_leaves.ensures ∙ ap leaf_count branch);
      below = omega (arith, ap length branch, some_branch rows c.args.at c.requires.at);
      before = omega (arith, c.apart_from.ensures.within, c.requires.size);
      apart = λ row least less.
          let other : Place = record { first = 0; past = 0; below = 0; apart = 0 } in
          let within : row < length c.args.places.now = omega (arith, less, c.requires.size) in
          omega (arith, c.apart_from.ensures.apart row other least within, (c.requires.places row other within).past, c.count_leaves-first.ensures);
    }
