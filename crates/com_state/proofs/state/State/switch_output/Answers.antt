use Rattle.std.proofs.Common.{ap}
use Rattle.com_events.specs.declared.reply.Reply.{Reply}
use Rattle.com_state.specs.State.{State}
use Rattle.com_state.proofs.Verbs.{switch_output_in}
use Rattle.com_state.proofs.Doing.{verb_left, still_left, verb_is_done}
use Rattle.com_state.proofs.state.State.switch_output.Goals as goal

pub verb_done-requires-clause-verbs : goal.verb_done-requires-clause-verbs
verb_done-requires-clause-verbs c =
    let S = c.args.self.now in
    still_left S c.switch_destinations.new.self c.args.unit (ap (λ (n : Reply × State). n.1.units) c.in_ok-reply.ensures.switched)
    (verb_left S c.args.unit (switch_output_in S c.args.on c.args.area c.args.key.now) c.requires.may)

pub returns-clause-step : goal.returns-clause-step
returns-clause-step c =
    let S = c.args.self.now in
    verb_is_done S c.args.unit (switch_output_in S c.args.on c.args.area c.args.key.now) c.in_ok-reply.reply c.switch_destinations.new.self c.verb_done.new.self
    c.requires.may c.in_ok-reply.ensures.switched c.verb_done.ensures
