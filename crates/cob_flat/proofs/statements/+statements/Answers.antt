use Rattle.std.proofs.Common.{◌≡◌, ◌<◌, ◌≤◌, ◌+◌, ◌-◌, arith, ap, drop, length, map, subst, sym, ◌∙◌}
use Rattle.cob_proc.specs.Trees.{lead, moves, paragraph_tree, plain}
use Rattle.cob_meaning.specs.Verbs.{receive}
use Rattle.cob_flat.specs.inner.Written.{IsSound, written, block_by}
use Rattle.cob_flat.specs.inner.Emitted.{AreEmitted}
use Rattle.cob_flat.proofs.Emission.{as_written, emits_branches, emits_lead, emits_receives, extends_on, if_ok, if_ok_on}
use Rattle.cob_flat.proofs.Rows.{checked_at, holds_checked, if_tree, next_block, no_data_checked, otherwise_checked, receive_tree, written_if_some}
use Rattle.cob_flat.proofs.Sizes.{block_size, each_smaller, tree_size, holds_smaller, no_data_smaller, otherwise_smaller}
use Rattle.cob_flat.proofs.statements.+statements.Goals as goal

pub emit_statement-emit_statements-requires : goal.emit_statement-emit_statements-requires
emit_statement-emit_statements-requires t c = (
  omega (arith, c.decreases, holds_smaller c.args.statement.now c.in-If.position c.in-If.condition c.in-If.holds c.in-If.otherwise c.deref.result.now c.in-If.is c.deref.ensures.value),
  holds_checked c.args.names.now (map paragraph_tree c.args.text.now) c.args.statement.now c.in-If.position c.in-If.condition c.in-If.holds c.in-If.otherwise c.deref.result.now c.in-If.is c.deref.ensures.value c.requires,
)

pub emit_statement-emit_statements-requires-in-If : goal.emit_statement-emit_statements-requires-in-If
emit_statement-emit_statements-requires-in-If t c = (
  omega (arith, c.decreases, otherwise_smaller c.args.statement.now c.in-If.position c.in-If.condition c.in-If.holds c.in-If.otherwise c.deref-in-If.result.now c.in-If.is c.deref-in-If.ensures.value),
  otherwise_checked c.args.names.now (map paragraph_tree c.args.text.now) c.args.statement.now c.in-If.position c.in-If.condition c.in-If.holds c.in-If.otherwise c.deref-in-If.result.now c.in-If.is c.deref-in-If.ensures.value c.requires,
)

pub emit_statement-emit_statements-requires-in-Receive : goal.emit_statement-emit_statements-requires-in-Receive
emit_statement-emit_statements-requires-in-Receive t c = (
  omega (arith, c.decreases, no_data_smaller c.args.statement.now c.in-Receive.cd c.in-Receive.segment c.in-Receive.into c.in-Receive.no_data c.deref-in-Receive.result.now c.in-Receive.is c.deref-in-Receive.ensures.value),
  no_data_checked c.args.names.now (map paragraph_tree c.args.text.now) c.args.statement.now c.in-Receive.cd c.in-Receive.segment c.in-Receive.into c.in-Receive.no_data c.deref-in-Receive.result.now c.in-Receive.is c.deref-in-Receive.ensures.value c.requires,
)

pub emit_statement-returns-in-Move-clause-does : goal.emit_statement-returns-in-Move-clause-does
emit_statement-returns-in-Move-clause-does t c =
    let text = map paragraph_tree c.args.text.now in
    if_ok c.emit_move.result _ _
    (λ place h. as_written c.args.names.now text _ _ _ place c.args.next (ap (λ targets. plain (moves c.in-Move.source targets)) c.as_slice.ensures ∙ sym (ap written c.in-Move.is)) (h text))
    c.emit_move.ensures.does

pub emit_statement-returns-in-Add-clause-does : goal.emit_statement-returns-in-Add-clause-does
emit_statement-returns-in-Add-clause-does t c =
    let text = map paragraph_tree c.args.text.now in
    if_ok c.emit_add.result _ _
    (λ place h. as_written c.args.names.now text _ _ _ place c.args.next (sym (ap written c.in-Add.is)) (h text))
    c.emit_add.ensures.does

pub emit_statement-returns-in-Subtract-clause-does : goal.emit_statement-returns-in-Subtract-clause-does
emit_statement-returns-in-Subtract-clause-does t c =
    let text = map paragraph_tree c.args.text.now in
    if_ok c.emit_subtract.result _ _
    (λ place h. as_written c.args.names.now text _ _ _ place c.args.next (sym (ap written c.in-Subtract.is)) (h text))
    c.emit_subtract.ensures.does

pub emit_statement-returns-in_ok-other-in-If-clause-does : goal.emit_statement-returns-in_ok-other-in-If-clause-does
emit_statement-returns-in_ok-other-in-If-clause-does t c =
    let text = map paragraph_tree c.args.text.now in
    let layout = c.args.names.now in
    if_ok_on c.emit_choice.result _ _ _ c.emit_choice.ensures.extends
    (λ place more h. as_written layout text _ _ _ place c.args.next
    (if_tree c.args.statement.now c.in-If.position c.in-If.condition c.in-If.holds c.in-If.otherwise c.deref.result.now c.deref-in-If.result.now c.in-If.is c.deref.ensures.value c.deref-in-If.ensures.value)
    (emits_branches layout text c.emit_statements.new.code.items c.emit_statements-in-If.new.code.items c.emit_choice.new.code.items c.in-If.position c.in-If.condition h.0 _ _ c.in_ok-one-in-If.one c.in_ok-other-in-If.other place c.args.next
    h.1 c.in_ok-one-in-If.ensures.does c.in_ok-other-in-If.ensures.extends c.in_ok-other-in-If.ensures.does more h.2))
    c.emit_choice.ensures.chooses

pub emit_statement-returns-in-Go-clause-does : goal.emit_statement-returns-in-Go-clause-does
emit_statement-returns-in-Go-clause-does t c =
    let text = map paragraph_tree c.args.text.now in
    if_ok c.emit_go.result _ _
    (λ place h. as_written c.args.names.now text _ _ _ place c.args.next (sym (ap written c.in-Go.is)) (h c.args.names.now c.args.next))
    c.emit_go.ensures.does

pub emit_statement-returns-in-Exit-clause-does : goal.emit_statement-returns-in-Exit-clause-does
emit_statement-returns-in-Exit-clause-does t c =
    let text = map paragraph_tree c.args.text.now in
    if_ok c.emit_exit.result _ _
    (λ place h. as_written c.args.names.now text _ _ _ place c.args.next (sym (ap written c.in-Exit.is)) (h c.args.names.now text))
    c.emit_exit.ensures.does

pub emit_statement-returns-in-Stop-clause-does : goal.emit_statement-returns-in-Stop-clause-does
emit_statement-returns-in-Stop-clause-does t c =
    let text = map paragraph_tree c.args.text.now in
    if_ok c.emit_stop.result _ _
    (λ place h. as_written c.args.names.now text _ _ _ place c.args.next (sym (ap written c.in-Stop.is)) (h c.args.names.now text c.args.next))
    c.emit_stop.ensures.does

pub emit_statement-returns-in_ok-place-in-Receive-clause-does : goal.emit_statement-returns-in_ok-place-in-Receive-clause-does
emit_statement-returns-in_ok-place-in-Receive-clause-does t c =
    let text = map paragraph_tree c.args.text.now in
    let layout = c.args.names.now in
    let no_data = block_by c.deref-in-Receive.result.now in
    if_ok_on c.emit_receive.result _ _ _ c.emit_receive.ensures.extends
    (λ place more h. as_written layout text _ _ _ place c.args.next
    (receive_tree c.args.statement.now c.in-Receive.cd c.in-Receive.segment c.in-Receive.into c.in-Receive.no_data c.deref-in-Receive.result.now c.in-Receive.is c.deref-in-Receive.ensures.value)
    (emits_receives layout text c.emit_statements-in-Receive.new.code.items c.emit_receive.new.code.items c.in-Receive.cd c.in-Receive.segment c.in-Receive.into no_data h.0 c.in_ok-place-in-Receive.place place c.args.next
    (λ storage. h.1 storage ∙ ap (λ b. receive layout c.in-Receive.cd c.in-Receive.segment c.in-Receive.into b storage) (written_if_some c.deref-in-Receive.result.now _ c.is_empty.result c.deref-in-Receive.ensures.len c.is_empty.ensures)) c.in_ok-place-in-Receive.ensures.does more h.2))
    c.emit_receive.ensures.asks

pub emit_statement-returns-in-Send-clause-does : goal.emit_statement-returns-in-Send-clause-does
emit_statement-returns-in-Send-clause-does t c =
    let text = map paragraph_tree c.args.text.now in
    if_ok c.emit_send.result _ _
    (λ place h. as_written c.args.names.now text _ _ _ place c.args.next (sym (ap written c.in-Send.is)) (h text))
    c.emit_send.ensures.does

pub emit_statement-returns-in-Accept-clause-does : goal.emit_statement-returns-in-Accept-clause-does
emit_statement-returns-in-Accept-clause-does t c =
    let text = map paragraph_tree c.args.text.now in
    if_ok c.emit_accept.result _ _
    (λ place h. as_written c.args.names.now text _ _ _ place c.args.next (sym (ap written c.in-Accept.is)) (h text))
    c.emit_accept.ensures.does

pub emit_statements-emit_statement-requires : goal.emit_statements-emit_statement-requires
emit_statements-emit_statement-requires t c =
    let all = c.args.statements.now in
    let within : c.statements.left - 1 < length all = omega (arith, c.statements.invariant.within, c.statements-test.true) in
    let at = c.index-statements-left.is in
    let small : tree_size (written c.index-statements-left.result) ≤ block_size (block_by all) =
    subst (λ s. tree_size (written s) ≤ block_size (block_by all)) (sym at) (each_smaller all (c.statements.left - 1) _ within) in (
      omega (arith, c.decreases, small),
      subst (IsSound c.args.names.now (map paragraph_tree c.args.text.now)) (sym at) (checked_at c.args.names.now (map paragraph_tree c.args.text.now) all (c.statements.left - 1) _ within c.requires),
    )

pub emit_statements-statements-preserved : goal.emit_statements-statements-preserved
emit_statements-statements-preserved t c =
    let all = c.args.statements.now in
    let text = map paragraph_tree c.args.text.now in
    let layout = c.args.names.now in
    let left = c.statements.left in
    let within : left - 1 < length all = omega (arith, c.statements.invariant.within, c.statements-test.true) in
    let next : left - 1 + 1 ≡ left = omega (arith, c.statements-test.true) in
    let one : block_by (drop (left - 1) all) ≡ lead (written c.index-statements-left.result) (block_by (drop left all)) =
    next_block all (left - 1) _ within ∙ ap (λ s. lead (written s) (block_by (drop (left - 1 + 1) all))) (sym c.index-statements-left.is)
    ∙ ap (λ n. lead (written c.index-statements-left.result) (block_by (drop n all))) next in
    record {
      within = omega (arith, within);
      extends = extends_on c.args.code.now.items c.statements.code.items c.emit_statement.new.code.items c.statements.invariant.extends c.in_ok-place.ensures.extends;
      does = subst (λ b. AreEmitted layout text c.emit_statement.new.code.items b c.in_ok-place.place c.args.next) (sym one)
          (emits_lead layout text c.statements.code.items c.emit_statement.new.code.items (written c.index-statements-left.result) (block_by (drop left all)) c.in_ok-place.place c.statements.place c.args.next
          c.statements.invariant.does c.in_ok-place.ensures.extends c.in_ok-place.ensures.does);
    }

pub emit_statements-returns-clause-does : goal.emit_statements-returns-clause-does
emit_statements-returns-clause-does t c =
    let none : c.statements.left ≡ 0 = omega (arith, c.statements-test.false) in
    subst (λ n. AreEmitted c.args.names.now (map paragraph_tree c.args.text.now) c.statements.code.items (block_by (drop n c.args.statements.now)) c.statements.place c.args.next) none c.statements.invariant.does
