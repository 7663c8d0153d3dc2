use Rattle.std.proofs.Common.{◌≡◌, ◌+◌, ◌-◌, suc, length, drop, arith}
use Rattle.com_tree.specs.Written.{rows_below}
use Rattle.com_tree.proofs.Searching.{to-the-end}
use Rattle.com_tree.proofs.Branches.{branch_taken}
use Rattle.com_tree.proofs.search.branch.Goals as goal

pub returns-clause-branch : goal.returns-clause-branch
returns-clause-branch c =
    let rows = c.args.rows.now in
    let at = c.args.at in
    let row = c.index-rows-at.result in
    let below : c.count_below-below.result ≡ length (rows_below row.depth (drop (at + 1) rows)) = rw (to-the-end (at + 1) rows, ← c.index-rows-at.is) at c.count_below-below.ensures.below in
    let many : at + 1 + c.count_below-below.result - at ≡ suc c.count_below-below.result = omega arith in
    rw (many, below) (branch_taken rows at row c.requires c.index-rows-at.is)
