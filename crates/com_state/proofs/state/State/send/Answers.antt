use Rattle.std.proofs.Common.{ap}
use Rattle.std.specs.Option.{option_copied}
use Rattle.com_events.specs.declared.reply.Reply.{Reply}
use Rattle.com_state.specs.State.{State}
use Rattle.com_state.proofs.Verbs.{send_in}
use Rattle.com_state.proofs.Doing.{verb_left, still_left, verb_is_done}
use Rattle.com_state.proofs.state.State.send.Goals as goal

pub verb_done-requires-clause-verbs : goal.verb_done-requires-clause-verbs
verb_done-requires-clause-verbs c =
    let S = c.args.self.now in
    still_left S c.send_part.new.self c.args.unit (ap (λ (n : Reply × State). n.1.units) c.in_ok-reply.ensures.sent)
    (verb_left S c.args.unit (send_in S c.args.unit c.args.area c.args.part (option_copied c.args.from)) c.requires.may)

pub returns-clause-step : goal.returns-clause-step
returns-clause-step c =
    let S = c.args.self.now in
    verb_is_done S c.args.unit (send_in S c.args.unit c.args.area c.args.part (option_copied c.args.from)) c.in_ok-reply.reply c.send_part.new.self c.verb_done.new.self
    c.requires.may c.in_ok-reply.ensures.sent c.verb_done.ensures
