use Rattle.std.proofs.Common.{◌<◌, length, sym, ◌∙◌, arith}
use Rattle.std.proofs.lemmas.List.{set-get_or}
use Rattle.std.proofs.Math.Seq.{map-set_same}
use Rattle.com_send.specs.Kept.{state_of, CanTransmit}
use Rattle.com_send.proofs.Changing.{named_more, named_skip}
use Rattle.com_send.proofs.outputs.make_room_to_transmit.Goals.{then-is_among+in_ok-room_to_transmit, else-is_among}
use Rattle.com_send.proofs.outputs.make_room_to_transmit.Goals as goal

pub returns-in_err-room_to_transmit-clause-states : goal.returns-in_err-room_to_transmit-clause-states
returns-in_err-room_to_transmit-clause-states c =
    map-set_same state_of c.loop-at.outputs c.loop-at.at c.room_to_transmit.new.self c.index-outputs-at.result c.room_to_transmit.ensures.state
    ∙ c.loop-at.invariant.states

pub loop-at-preserved : goal.loop-at-preserved
loop-at-preserved c =
    let found = c.args.found.now in
    let outputs = c.loop-at.outputs in
    let at = c.loop-at.at in
    let lent = c.index-outputs-at.result in
    let within : at < length outputs = omega arith in
    elim c.if-is_among.branch [
      | then-is_among+in_ok-room_to_transmit w ↦ record {
        states = rw w.outputs-is (map-set_same state_of outputs at w.room_to_transmit.new.self lent w.room_to_transmit.ensures.state ∙ c.loop-at.invariant.states);
        room = rw w.outputs-is (named_more found (CanTransmit) at outputs w.room_to_transmit.new.self within c.loop-at.invariant.room w.in_ok-room_to_transmit.ensures.room);
      }
      | else-is_among w ↦ record {
        states = rw (w.outputs-is, set-get_or outputs at lent) c.loop-at.invariant.states;
        room = rw (w.outputs-is, set-get_or outputs at lent) (named_skip found (CanTransmit) at outputs (sym c.is_among.ensures ∙ w.if-is_among.false) c.loop-at.invariant.room);
      }
    ]
