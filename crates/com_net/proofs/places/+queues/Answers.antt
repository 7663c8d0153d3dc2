use Rattle.std.proofs.Common.{◌∙◌, ◌+◌, map, drop, sym, append-nil, arith}
use Rattle.toml.specs.View.{items_view, table_view}
use Rattle.com_net.specs.Values.{tables_of}
use Rattle.com_net.specs.inner.Seen.{seen}
use Rattle.com_net.proofs.Walks.{next_table, skip_value, no_tables_left, no_queues, kept_queue}
use Rattle.com_net.proofs.places.+queues.Goals.{push_queues-in-Some+in_ok-element+in_ok-push_queue, push_queues-in_default}
use Rattle.com_net.proofs.places.+queues.Goals as goal

pub push_queues-loop-value-preserved : goal.push_queues-loop-value-preserved
push_queues-loop-value-preserved t c =
    let at = c.loop-value.value-index in
    let values = c.args.values.now in
    let value = c.value-item.result in
    let levels = c.args.levels in
    let path = c.args.path.now in
    elim c.match-as_table.branch [
      | push_queues-in-Some+in_ok-element+in_ok-push_queue w ↦
          let content = table_view w.in-Some.table.now in
          let left = next_table values at value content (omega arith) c.value-item.is (sym w.in-Some.ensures) in
          let kept = rw left at c.loop-value.invariant.queues in
          let one = kept_queue levels c.loop-value.number path w.in_ok-element.field-0 (map seen c.loop-value.found.items) (map seen w.push_queue.new.found.items) content
          (tables_of (items_view (drop (at + 1) values))) (omega arith) w.in_ok-element.ensures.path w.in_ok-push_queue.ensures.queues in
          rw (w.found-is, w.number-is) (record { queues = one ∙ kept; number = omega arith })
      | push_queues-in_default w ↦
          let left = skip_value values at value (omega arith) c.value-item.is (sym w.in_default.ensures) in
          rw (w.found-is, w.number-is) (record { queues = rw left at c.loop-value.invariant.queues; number = omega arith })
    ]

pub push_queues-returns : goal.push_queues-returns
push_queues-returns t c =
    let gone = no_tables_left c.args.values.now c.loop-value.value-index (omega arith) in
    let kept = rw gone at c.loop-value.invariant.queues in
    record { queues = sym (append-nil (map seen c.loop-value.found.items)) ∙ (rw (no_queues c.args.levels c.loop-value.number c.args.path.now) at kept) }
