use Rattle.std.proofs.Common.{ap, ◌∙◌}
use Rattle.com_events.specs.declared.reply.Reply.{Reply}
use Rattle.com_state.specs.State.{State}
use Rattle.com_state.specs.Switches.{switch_input}
use Rattle.com_state.proofs.Aside.{aside_switch_input}
use Rattle.com_state.proofs.Doing.{verb_left, still_left, verb_is_done}
use Rattle.com_state.proofs.state.State.switch_input.Goals as goal

pub verb_done-requires-clause-unit : goal.verb_done-requires-clause-unit
verb_done-requires-clause-unit c =
    let S = c.args.self.now in
    let units = ap (λ (n : Reply × State). n.1.units) c.switch_flags-reply.ensures.switched ∙ (aside_switch_input S c.args.on c.args.terminal c.args.area c.args.key.now).units in
    rw units c.requires.unit

pub verb_done-requires-clause-verbs : goal.verb_done-requires-clause-verbs
verb_done-requires-clause-verbs c =
    let S = c.args.self.now in
    let units = ap (λ (n : Reply × State). n.1.units) c.switch_flags-reply.ensures.switched ∙ (aside_switch_input S c.args.on c.args.terminal c.args.area c.args.key.now).units in
    still_left S c.switch_flags-reply.new.self c.args.unit units (verb_left S c.args.unit (switch_input S c.args.on c.args.terminal c.args.area c.args.key.now) c.requires.may)

pub returns-clause-step : goal.returns-clause-step
returns-clause-step c =
    let S = c.args.self.now in
    verb_is_done S c.args.unit (switch_input S c.args.on c.args.terminal c.args.area c.args.key.now) c.switch_flags-reply.result c.switch_flags-reply.new.self c.verb_done.new.self
    c.requires.may c.switch_flags-reply.ensures.switched c.verb_done.ensures
