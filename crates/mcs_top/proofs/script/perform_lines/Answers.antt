use Rattle.std.proofs.Common.{arith}
use Rattle.com_journal.specs.Scripts.{lines_of}
use Rattle.com_journal.proofs.FirstLines.{lines-first}
use Rattle.mcs_top.proofs.Kept.{done_nothing, done_more, few_arrivals, few_portions}
use Rattle.mcs_top.proofs.Performing.{stopped_by}
use Rattle.mcs_top.proofs.script.perform_lines.Goals as goal

pub loop-line-init : goal.loop-line-init
loop-line-init c = record { done = done_nothing c.args.net.now c.args.lines c.in-Ok.run' c.in-Ok.ensures; few = omega arith }

pub perform_line-requires-clause-arrivals : goal.perform_line-requires-clause-arrivals
perform_line-requires-clause-arrivals c =
    let few = few_arrivals c.args.net.now (lines_of c.args.lines) c.loop-line.lines c.loop-line.run c.loop-line.number c.loop-line.invariant.done in
    omega (arith, few, c.loop-line.invariant.few, c.requires.few)

pub perform_line-requires-clause-portions : goal.perform_line-requires-clause-portions
perform_line-requires-clause-portions c =
    let few = few_portions c.args.net.now (lines_of c.args.lines) c.loop-line.lines c.loop-line.run c.loop-line.number c.loop-line.invariant.done in
    omega (arith, few, c.loop-line.invariant.few, c.requires.few)

pub returns-in-Err-clause-refused : goal.returns-in-Err-clause-refused
returns-in-Err-clause-refused c =
    let first = lines-first c.loop-line.lines c.in-Some.line.text.now c.next_line.new.self c.in-Some.line.is_ended c.in-Some.ensures.line in
    rw c.failure_at.ensures (stopped_by c.args.net.now (lines_of c.args.lines) c.loop-line.lines c.next_line.new.self c.in-Some.line.text.now c.loop-line.run c.loop-line.number c.in-Err.fault c.loop-line.invariant.done first c.in-Err.ensures.refused)

pub loop-line-preserved : goal.loop-line-preserved
loop-line-preserved c =
    let first = lines-first c.loop-line.lines c.in-Some.line.text.now c.next_line.new.self c.in-Some.line.is_ended c.in-Some.ensures.line in
    record {
      done = done_more c.args.net.now (lines_of c.args.lines) c.loop-line.lines c.next_line.new.self c.in-Some.line.text.now c.loop-line.run c.perform_line.new.run c.loop-line.number c.loop-line.invariant.done first
          c.in_default-perform_line.ensures.done;
      few = omega (arith, c.loop-line.invariant.few, c.in-Some.ensures.shorter);
    }
