use Rattle.std.proofs.Common.{◌≡◌, ◌<◌, ◌≤◌, ◌+◌, length, get_or, refl, arith}
use Rattle.com_tree.specs.declared.index.Place.{Place}
use Rattle.com_tree.specs.NextLeaf.{node_at}
use Rattle.com_tree.specs.inner.Index.{IsPlace}
use Rattle.com_tree.proofs.Branches.{leaves_of_branch}
use Rattle.com_tree.proofs.tree.Tree.leaves_under.Goals as goal

pub returns : goal.returns
returns c =
    let tree = c.args.self.now in
    let at = c.args.node.row in
    let none : Place = record { first = 0; past = 0; below = 0; apart = 0 } in
    let is : IsPlace tree at (get_or c.places.result.now at none) = c.places.ensures.places at none (omega (arith, c.requires, c.places.ensures.size)) in
    record {
      leaves = rw (is.first, is.past) refl;
      order = omega (arith, is.first, is.past);
      within = omega (arith, is.past, leaves_of_branch tree at);
    }
