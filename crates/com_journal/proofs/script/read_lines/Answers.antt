use Rattle.std.proofs.Common.{◌≡◌, [], ◌∷◌, ◌++◌, arith, rules}
use Rattle.std.proofs.lemmas.Result.{err_from_is_err_and}
use Rattle.com_journal.proofs.Histories.{one_call, bad_call}
use Rattle.com_journal.proofs.script.read_lines.Goals as goal

pub returns-in_err-call-clause-refused : goal.returns-in_err-call-clause-refused
returns-in_err-call-clause-refused c =
    let line = c.in-Some.line in
    let failed = err_from_is_err_and c.from_residual.result c.from_residual.ensures.1 in
    rw (failed.1, failed.2) (bad_call c.args.lines.now c.loop-line.calls c.loop-line.number c.loop-line.lines line.text.now line.is_ended c.next_line.new.self c.in_err-call.field-0.0 c.loop-line.invariant.read c.in-Some.ensures.line c.in_err-call.ensures.refused)

pub loop-line-preserved : goal.loop-line-preserved
loop-line-preserved c =
    let call = c.in_ok-call.call in
    let line = c.in-Some.line in
    let pushed : c.push.new.self ≡ c.loop-line.calls ++ call ∷ [] = search rules in
    rw pushed record {
      read = one_call c.args.lines.now c.loop-line.calls c.loop-line.number c.loop-line.lines call line.text.now line.is_ended c.next_line.new.self c.loop-line.invariant.read c.in-Some.ensures.line c.in_ok-call.ensures.call;
      few = omega (arith, c.in-Some.ensures.shorter);
    }
