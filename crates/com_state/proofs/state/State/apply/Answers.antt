use Rattle.std.proofs.Common.{Option, sym, ap, ◌∙◌}
use Rattle.std.specs.Prelude.{is_some}
use Rattle.com_events.specs.declared.reply.Reply.{Reply}
use Rattle.com_state.specs.State.{State}
use Rattle.com_state.specs.Steps.{step}
use Rattle.com_state.proofs.Doing.{steps_of_unit, steps_of_terminal, steps_of_no_unit, steps_of_no_terminal, not_allowed}
use Rattle.com_state.proofs.state.State.apply.Goals as goal

pub apply_unit-requires-clause-may : goal.apply_unit-requires-clause-may
apply_unit-requires-clause-may c =
    sym (ap (λ (o : Option (Reply × State)). is_some o) (steps_of_unit c.args.self.now c.args.party.now c.in-Unit.name c.in-Some.unit c.args.call.now c.in-Unit.is c.in-Some.ensures.number))
    ∙ c.requires.may

pub unreachable-requires : goal.unreachable-requires
unreachable-requires c =
    not_allowed (step c.args.self.now c.args.party.now c.args.call.now)
    (steps_of_no_unit c.args.self.now c.args.party.now c.in-Unit.name c.args.call.now c.in-Unit.is c.in-None.ensures.number) c.requires.may

pub apply_terminal-requires-clause-may : goal.apply_terminal-requires-clause-may
apply_terminal-requires-clause-may c =
    sym (ap (λ (o : Option (Reply × State)). is_some o) (steps_of_terminal c.args.self.now c.args.party.now c.in-Terminal.name c.in-Some-terminal.terminal c.args.call.now c.in-Terminal.is c.in-Some-terminal.ensures.number))
    ∙ c.requires.may

pub unreachable-requires-in-None-terminal : goal.unreachable-requires-in-None-terminal
unreachable-requires-in-None-terminal c =
    not_allowed (step c.args.self.now c.args.party.now c.args.call.now)
    (steps_of_no_terminal c.args.self.now c.args.party.now c.in-Terminal.name c.args.call.now c.in-Terminal.is c.in-None-terminal.ensures.number) c.requires.may

pub returns-in-Some-clause-step : goal.returns-in-Some-clause-step
returns-in-Some-clause-step c =
    rw (steps_of_unit c.args.self.now c.args.party.now c.in-Unit.name c.in-Some.unit c.args.call.now c.in-Unit.is c.in-Some.ensures.number) c.apply_unit.ensures.step

pub returns-in-Some-terminal-clause-step : goal.returns-in-Some-terminal-clause-step
returns-in-Some-terminal-clause-step c =
    rw (steps_of_terminal c.args.self.now c.args.party.now c.in-Terminal.name c.in-Some-terminal.terminal c.args.call.now c.in-Terminal.is c.in-Some-terminal.ensures.number) c.apply_terminal.ensures.step
