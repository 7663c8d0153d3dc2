use Rattle.std.proofs.Common.{sym, ◌∙◌}
use Rattle.com_state.proofs.Doing.{receive_goes_on}
use Rattle.com_state.proofs.state.State.receive.Goals as goal

pub returns-clause-step : goal.returns-clause-step
returns-clause-step c =
    receive_goes_on c.args.self.now c.args.unit c.args.area.now c.args.kind c.args.size c.args.no_data c.in_ok-reply.reply c.take.new.self c.verb_done.new.self
    c.requires.may (sym c.has_to_wait.ensures ∙ c.if-has_to_wait.false) c.in_ok-reply.ensures.taken c.verb_done.ensures
