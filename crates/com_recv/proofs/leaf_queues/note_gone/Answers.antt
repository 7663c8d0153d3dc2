use Rattle.std.proofs.Common.{◌<◌, ◌≤◌, arith}
use Rattle.com_recv.proofs.Kept.{gone, gone_beyond}
use Rattle.com_recv.proofs.leaf_queues.note_gone.Goals as goal

pub returns-then-leaf-leaves : goal.returns-then-leaf-leaves
returns-then-leaf-leaves c = λ waiting is some are.
    gone_beyond c.args.tree.now c.args.heads.now c.args.counts.now waiting c.args.leaf.number are (omega (arith, c.if-leaf-leaves.true, c.leaves.ensures.leaves)) some

pub returns : goal.returns
returns c = λ waiting is some are.
    gone c.args.tree.now c.args.heads.now c.set.new.self c.args.counts.now c.take.new.self waiting c.args.leaf.number c.args.next are (omega (arith, c.if-leaf-leaves.false, c.leaves.ensures.leaves)) some
    c.set.ensures.heads c.set.ensures.numbers is c.take.ensures
