use Rattle.std.proofs.Common.{◌≡◌, sym, ap, ◌∙◌}
use Rattle.std.specs.Prelude.{option_map, is_some}
use Rattle.com_tree.specs.declared.tree.Leaf.{Leaf}
use Rattle.com_recv.specs.Incoming.{Incoming, chosen_leaf}
use Rattle.com_recv.proofs.Awaited.{chosen_where_awaited}
use Rattle.com_recv.proofs.Receiving.{some_message}
use Rattle.com_recv.proofs.queues.Queues.choice.Goals as goal

pub returns-clause-leaf : goal.returns-clause-leaf
returns-clause-leaf c = c.choice.ensures.leaf ∙ ap (λ (i : Incoming). chosen_leaf c.args.tree.now i.waiting c.args.node) c.self.view_is

pub returns-clause-message : goal.returns-clause-message
returns-clause-message c =
    let tree = c.args.tree.now in
    let leaf : option_map (λ leaf. leaf.number) c.choice.result ≡ chosen_leaf tree c.args.self.now.waiting c.args.node =
    c.choice.ensures.leaf ∙ ap (λ (i : Incoming). chosen_leaf tree i.waiting c.args.node) c.self.view_is in
    sym (some_message (λ (leaf : Leaf). leaf.number) c.choice.result) ∙ (ap is_some leaf ∙ chosen_where_awaited tree c.args.self.now.waiting c.args.node c.requires.tree.written c.requires.node)
