use Rattle.std.proofs.Common.{◌≡◌}
use Rattle.com_send.specs.Kept.{states_of, EachNamed, HasRoom}
use Rattle.com_send.proofs.outputs.make_room.Given as goal

-- nothing that is seen has changed, and there is room at the destinations so far
abbrev pub invariant-loop-at : goal.invariant-loop-at
invariant-loop-at l = record {
  states : states_of l.outputs ≡ states_of l.fn.outputs;
  room : EachNamed l.named (HasRoom l.unit l.sent_part.part l.sent_part.text.now) l.at l.outputs;
}
