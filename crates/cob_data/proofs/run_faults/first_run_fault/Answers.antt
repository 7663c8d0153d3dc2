use Rattle.std.proofs.Common.{drop}
use Rattle.cob_data.specs.Entries.{split_runs, run}
use Rattle.cob_data.proofs.RunLaws.{run_next}
use Rattle.cob_data.proofs.run_faults.first_run_fault.Goals as goal

pub runs-preserved : goal.runs-preserved
runs-preserved c = record {
  left = rw (c.first_of-found.ensures, c.in_ok-here.ensures, c.is_last_run-is_last.ensures, c.tokens.ensures)
      (run_next c.args.is_followed c.runs.found _ (run c.in-Some.head.now c.in-Some.items.now) (split_runs (drop c.runs.place c.args.entries.now)).1 (split_runs (drop c.in-Some.past c.args.entries.now)).1 c.in-Some.ensures.run c.runs.invariant.left);
  within = c.in-Some.ensures.past.1;
}
