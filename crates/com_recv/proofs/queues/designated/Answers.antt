use Rattle.std.proofs.Common.{◌∙◌}
use Rattle.com_recv.proofs.Designating.{designated_path, designated_none}
use Rattle.com_recv.proofs.queues.designated.Goals as goal

pub returns-in-Path-clause-node : goal.returns-in-Path-clause-node
returns-in-Path-clause-node c =
    c.node.ensures.node ∙ designated_path c.args.tree.now c.args.area.now c.in-Path.path c.requires ((c.designation.ensures.path c.in-Path.path).0 c.in-Path.is)

pub returns-in-Malformed-clause-node : goal.returns-in-Malformed-clause-node
returns-in-Malformed-clause-node c = designated_none c.args.tree.now c.args.area.now c.requires (c.designation.ensures.malformed.0 c.in-Malformed.is)
