use Rattle.std.proofs.Common.{◌<◌, length, sym, ◌∙◌, arith}
use Rattle.std.proofs.lemmas.List.{set-get_or}
use Rattle.std.proofs.Math.Seq.{map-set_same}
use Rattle.com_send.specs.Kept.{state_of, HasRoom}
use Rattle.com_send.proofs.Changing.{named_more, named_skip, begun_length}
use Rattle.com_send.proofs.outputs.make_room.Goals.{then-has+in_ok-room, else-has}
use Rattle.com_send.proofs.outputs.make_room.Goals as goal

pub room-requires-clause-known : goal.room-requires-clause-known
room-requires-clause-known c =
    let at = c.loop-at.at in
    let lent = c.index-outputs-at.result in
    let within : at < length c.args.outputs.now = omega arith in
    rw (begun_length c.loop-at.outputs c.args.outputs.now at lent c.loop-at.invariant.states) (c.requires.units at lent within)

pub returns-in_err-room-clause-states : goal.returns-in_err-room-clause-states
returns-in_err-room-clause-states c =
    map-set_same state_of c.loop-at.outputs c.loop-at.at c.room.new.self c.index-outputs-at.result c.room.ensures.state
    ∙ c.loop-at.invariant.states

pub loop-at-preserved : goal.loop-at-preserved
loop-at-preserved c =
    let found = c.args.named.now in
    let outputs = c.loop-at.outputs in
    let at = c.loop-at.at in
    let lent = c.index-outputs-at.result in
    let within : at < length outputs = omega arith in
    elim c.if-has.branch [
      | then-has+in_ok-room w ↦ record {
        states = rw w.outputs-is (map-set_same state_of outputs at w.room.new.self lent w.room.ensures.state ∙ c.loop-at.invariant.states);
        room = rw w.outputs-is (named_more found (HasRoom c.args.unit c.args.sent_part.now.part c.args.sent_part.now.text.now) at outputs w.room.new.self within c.loop-at.invariant.room w.in_ok-room.ensures.room);
      }
      | else-has w ↦ record {
        states = rw (w.outputs-is, set-get_or outputs at lent) c.loop-at.invariant.states;
        room = rw (w.outputs-is, set-get_or outputs at lent) (named_skip found (HasRoom c.args.unit c.args.sent_part.now.part c.args.sent_part.now.text.now) at outputs (sym c.has.ensures ∙ w.if-has.false) c.loop-at.invariant.room);
      }
    ]
