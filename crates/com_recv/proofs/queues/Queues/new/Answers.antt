use Rattle.std.proofs.Common.{◌<◌, ◌≤◌, arith}
use Rattle.com_recv.specs.Incoming.{IsTreeOf}
use Rattle.com_recv.proofs.queues.Queues.new.Goals as goal

pub returns-clause-tree : goal.returns-clause-tree
returns-clause-tree c = record {
  written = c.rows-rows.ensures.written;
  waiting = rw c.in_ok-new.ensures (λ k d within. absurd (omega (arith, within)));
  held = rw c.in_ok-with_capacity.ensures.items (λ k d within. absurd (omega (arith, within)));
}
