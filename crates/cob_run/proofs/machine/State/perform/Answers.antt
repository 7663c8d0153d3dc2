use Rattle.std.proofs.Common.{sym, ◌∙◌}
use Rattle.cob_run.proofs.Stepping.{performed_by}
use Rattle.cob_run.proofs.machine.State.perform.Goals as goal

pub returns-clause-ok : goal.returns-clause-ok
returns-clause-ok c =
    performed_by c.args.code.now c.args.starts.now c.args.turns.now c.args.first c.args.last c.args.next c.in-Some.further c.args.self.now
    c.push.new.self c.count-2.new.self c.begin_turns.new.self (sym c.further.ensures ∙ c.in-Some.is) c.in_ok-push.ensures.ok
    c.count-2.ensures c.begin_turns.ensures
