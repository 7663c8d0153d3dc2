use Rattle.std.proofs.Common.{◌≡◌, ◌≢◌, ◌<◌, get_or, set, sym, ap, ◌∙◌, length, arith}
use Rattle.std.proofs.lemmas.List.{map-set, get_or-map, get_or-set_other, length-map}
use Rattle.std.proofs.lemmas.List.Edits.{map_over_more}
use Rattle.com_msg.specs.Begun.{nothing_begun}
use Rattle.com_send.specs.declared.output.Output.{Output}
use Rattle.com_send.specs.Outgoing.{with_begun}
use Rattle.com_send.specs.Kept.{state_of, states_of}
use Rattle.com_send.proofs.outputs.drop_unit.Goals as goal

pub drop_unit-requires : goal.drop_unit-requires
drop_unit-requires c =
    let at = c.loop-output.output-index in
    let lent = c.output-item.result in
    let same : get_or c.loop-output.outputs at lent ≡ get_or c.args.outputs.now at lent = c.loop-output.invariant.others at lent (omega arith) in
    let begun : length (get_or c.loop-output.outputs at lent).begun.items ≡ length (get_or c.args.outputs.now at lent).begun.items = ap (λ (output : Output). length output.begun.items) same in
    let there = c.requires at lent c.loop-output-test.true in
    omega arith

pub loop-output-preserved : goal.loop-output-preserved
loop-output-preserved c =
    let unit = c.args.unit in
    let before = c.args.outputs.now in
    let after = c.loop-output.outputs in
    let at = c.loop-output.output-index in
    let lent = get_or after at c.output-item.result in
    let new = c.drop_unit.new.self in
    let within : at < length before = c.loop-output-test.true in
    let within_states : at < length (states_of before) = rw (length-map before state_of) within in
    let within_after : at < length after = omega arith in
    let stands : state_of lent ≡ get_or (states_of after) at (state_of lent) = sym (get_or-map state_of after at c.output-item.result (state_of lent) within_after) in
    record {
      states = map-set state_of after at new
          ∙ (ap (set (states_of after) at) c.drop_unit.ensures
          ∙ map_over_more (with_begun unit nothing_begun) (states_of before) (states_of after) at (state_of lent) within_states c.loop-output.invariant.states stands);
      others = λ k d above.
          let other : k ≢ at = omega arith in
          get_or-set_other after at k new d other ∙ c.loop-output.invariant.others k d (omega arith);
    }
