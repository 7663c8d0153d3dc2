use Rattle.std.proofs.Common.{◌≡◌, None, rules}
use Rattle.com_tree.specs.Faults.{tree_fault}
use Rattle.com_tree.proofs.Building.{written_of}
use Rattle.com_tree.proofs.tree.Tree.build.Goals as goal

pub of_rows-requires : goal.of_rows-requires
of_rows-requires c =
    let rows = c.args.rows.now in
    let same : c.of_vec.result ≡ rows = search rules in
    let none : tree_fault rows ≡ None = search rules in
    rw same (written_of rows c.requires.outline none (rw c.in_default.is at c.in_ok-row.ensures.names))
