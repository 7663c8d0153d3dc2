use Rattle.std.proofs.Common.{◌≡◌, ap, sym, ◌∙◌, true, false}
use Rattle.std.specs.Prelude.{is_some, slice_get}
use Rattle.std.proofs.lemmas.Bool.{or_left}
use Rattle.com_tree.specs.declared.tree.Leaf.{Leaf}
use Rattle.com_recv.specs.Incoming.{held_under, has_rest, has_message}
use Rattle.com_recv.proofs.Awaited.{data_where, rest_at}
use Rattle.com_recv.proofs.Receiving.{data_by_choice, none_then, some_message}
use Rattle.com_recv.proofs.queues.Queues.has_data.Goals as goal

pub returns-else-is_some-clause-data : goal.returns-else-is_some-clause-data
returns-else-is_some-clause-data c =
    let tree = c.args.tree.now in
    let queued = c.args.self.now in
    let none : is_some (held_under tree queued.held c.args.unit c.args.node) ≡ false =
    ap is_some (sym c.held_under.ensures.held) ∙ none_then (slice_get queued.held) c.held_under.result (sym c.if-is_some.ensures) in
    c.is_some-else-is_some.ensures
    ∙ (sym (some_message (λ (leaf : Leaf). leaf.number) c.choice.result)
    ∙ (ap is_some c.choice.ensures.leaf ∙ sym (data_by_choice tree queued c.args.unit c.args.node none)))

pub returns-else-is_some-clause-exact : goal.returns-else-is_some-clause-exact
returns-else-is_some-clause-exact c =
    returns-else-is_some-clause-data c ∙ data_where c.args.tree.now c.args.self.now c.args.unit c.args.node c.requires.tree.written c.requires.node

pub returns-then-is_some-clause-exact : goal.returns-then-is_some-clause-exact
returns-then-is_some-clause-exact c =
    let tree = c.args.tree.now in
    let incoming = c.args.self.now in
    let rest : has_rest tree incoming.held c.args.unit c.args.node ≡ true =
    rest_at tree incoming.held c.args.unit c.args.node c.held_under.result c.held_under.ensures.held (sym c.is_some.ensures ∙ c.if-is_some.true) c.held_under.ensures.within in
    c.if-is_some.true ∙ sym (or_left (has_rest tree incoming.held c.args.unit c.args.node) (has_message tree incoming.waiting c.args.node) rest)
