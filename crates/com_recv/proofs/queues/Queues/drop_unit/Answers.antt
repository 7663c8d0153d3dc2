use Rattle.std.proofs.Common.{◌≤◌, ◌<◌, length, not}
use Rattle.std.specs.Prelude.{◌==◌}
use Rattle.std.proofs.lemmas.List.Elements.{All-filter}
use Rattle.com_tree.specs.Written.{leaf_count}
use Rattle.com_recv.specs.declared.lists.Held.{Held}
use Rattle.com_recv.proofs.queues.Queues.drop_unit.Goals as goal

pub invariant_of-self : goal.invariant_of-self
invariant_of-self c = record {
  waiting = c.self.invariant.waiting;
  held = rw c.drop_unit.ensures (All-filter (λ (h : Held). not (h.unit == c.args.unit)) (λ h. 1 ≤ length h.rest.segments) c.self.inside.held.items c.self.invariant.held);
  in_order = c.self.invariant.in_order;
}

pub returns-clause-tree : goal.returns-clause-tree
returns-clause-tree c = λ tree is.
    let inside = rw (← c.self.view_is) at is in
    record {
      written = inside.written;
      waiting = inside.waiting;
      held = rw c.drop_unit.ensures (All-filter (λ (h : Held). not (h.unit == c.args.unit)) (λ h. h.leaf.number < leaf_count tree) c.self.inside.held.items inside.held);
    }
