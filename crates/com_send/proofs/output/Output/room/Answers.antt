use Rattle.std.proofs.Common.{ap, ◌∙◌, map}
use Rattle.com_msg.specs.Begun.{OpenMessage}
use Rattle.std.proofs.Math.Seq.{map-set_same}
use Rattle.com_send.proofs.Serving.{same_state}
use Rattle.com_send.proofs.output.Output.room.Goals as goal

pub returns-in_err-self-clause-state : goal.returns-in_err-self-clause-state
returns-in_err-self-clause-state c =
    let self = c.args.self.now in
    let begun = λ (message : OpenMessage). message.begun in
    let lent = c.index_mut.result.now in
    same_state self.on _ (map begun self.begun.items) _ self.queued.items _ self.sent.items
    (map-set_same begun self.begun.items c.args.unit c.ready_message.new.begun lent (c.ready_message.ensures.begun ∙ ap begun c.index_mut.ensures.value))
    c.reserve.ensures.items c.reserve-2.ensures.items

pub returns-clause-state : goal.returns-clause-state
returns-clause-state c =
    let self = c.args.self.now in
    let begun = λ (message : OpenMessage). message.begun in
    let lent = c.index_mut.result.now in
    same_state self.on _ (map begun self.begun.items) _ self.queued.items _ self.sent.items
    (map-set_same begun self.begun.items c.args.unit c.ready_message.new.begun lent (c.ready_message.ensures.begun ∙ ap begun c.index_mut.ensures.value))
    c.reserve.ensures.items c.reserve-2.ensures.items
