use Rattle.std.proofs.Common.{◌≤◌, ◌+◌, take, arith}
use Rattle.com_tree.specs.Written.{top_count}
use Rattle.com_tree.proofs.Branches.{some_top}
use Rattle.com_tree.proofs.tree.Tree.top.Goals as goal

pub overflow_sub-result : goal.overflow_sub-result
overflow_sub-result c =
    let some : 1 ≤ top_count (take (c.args.node.row + 1) c.rows-rows.result.now) = rw c.rows-rows.ensures.rows (some_top c.args.self.now c.args.node.row c.rows-rows.ensures.written.forest) in
    omega (arith, c.count_tops.ensures.tops, some)
