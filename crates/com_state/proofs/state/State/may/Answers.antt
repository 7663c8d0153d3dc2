use Rattle.std.proofs.Common.{Option, sym, ap, ◌∙◌}
use Rattle.std.specs.Prelude.{is_some}
use Rattle.com_events.specs.declared.reply.Reply.{Reply}
use Rattle.com_state.specs.State.{State}
use Rattle.com_state.proofs.Doing.{steps_of_unit, steps_of_terminal, steps_of_no_unit, steps_of_no_terminal}
use Rattle.com_state.proofs.state.State.may.Goals as goal

pub returns-in-Some : goal.returns-in-Some
returns-in-Some c =
    c.may_unit.ensures
    ∙ sym (ap (λ (o : Option (Reply × State)). is_some o) (steps_of_unit c.args.self.now c.args.party.now c.in-Unit.name c.in-Some.unit c.args.call.now c.in-Unit.is c.in-Some.ensures.number))

pub returns-in-None : goal.returns-in-None
returns-in-None c =
    sym (ap (λ (o : Option (Reply × State)). is_some o) (steps_of_no_unit c.args.self.now c.args.party.now c.in-Unit.name c.args.call.now c.in-Unit.is c.in-None.ensures.number))

pub returns-in-Some-terminal : goal.returns-in-Some-terminal
returns-in-Some-terminal c =
    c.may_terminal.ensures c.in-Terminal.name
    ∙ sym (ap (λ (o : Option (Reply × State)). is_some o) (steps_of_terminal c.args.self.now c.args.party.now c.in-Terminal.name c.in-Some-terminal.terminal c.args.call.now c.in-Terminal.is c.in-Some-terminal.ensures.number))

pub returns-in-None-terminal : goal.returns-in-None-terminal
returns-in-None-terminal c =
    sym (ap (λ (o : Option (Reply × State)). is_some o) (steps_of_no_terminal c.args.self.now c.args.party.now c.in-Terminal.name c.args.call.now c.in-Terminal.is c.in-None-terminal.ensures.number))
