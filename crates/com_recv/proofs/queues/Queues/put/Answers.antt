use Rattle.std.proofs.Common.{◌<◌}
use Rattle.std.specs.List.{All}
use Rattle.com_recv.specs.declared.lists.Waiting.{Waiting}
use Rattle.com_recv.specs.Incoming.{Incoming, IsTreeOf}
use Rattle.com_recv.proofs.FirstOnLeaf.{sound_more, tree_more}
use Rattle.com_recv.proofs.queues.Queues.put.Goals.{in-Ok, in-Err}
use Rattle.com_recv.proofs.queues.Queues.put.Goals as goal

pub push-requires-clause-later : goal.push-requires-clause-later
push-requires-clause-later c = rw (← c.self.view_is) at c.requires.later

pub invariant_of-self : goal.invariant_of-self
invariant_of-self c =
    let inside = c.self.inside in
    let incoming : Incoming = record { waiting = inside.waiting; held = inside.held.items } in
    let one : Waiting = record { leaf = c.args.leaf; message = c.args.message } in
    let later : All (λ w. w.message.arrival < c.args.message.arrival) inside.waiting = rw (← c.self.view_is) at c.requires.later in
    elim c.match-push.branch [
      | in-Ok w ↦ sound_more incoming one c.push.new.self w.in-Ok.ensures.ok c.requires.segments later c.self.invariant
      | in-Err w ↦ rw w.in-Err.ensures.err c.self.invariant
    ]

pub returns-clause-tree : goal.returns-clause-tree
returns-clause-tree c =
    let tree = c.args._tree.now in
    let inside = c.self.inside in
    let incoming : Incoming = record { waiting = inside.waiting; held = inside.held.items } in
    let one : Waiting = record { leaf = c.args.leaf; message = c.args.message } in
    let on : IsTreeOf tree incoming = rw (← c.self.view_is) at c.requires.tree in
    elim c.match-push.branch [
      | in-Ok w ↦ tree_more tree incoming one c.push.new.self w.in-Ok.ensures.ok c.requires.leaf on
      | in-Err w ↦ rw w.in-Err.ensures.err on
    ]
