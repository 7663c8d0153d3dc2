use Rattle.std.proofs.Common.{drop}
use Rattle.cob_data.specs.Levels.{records_of}
use Rattle.cob_data.proofs.RunLaws.{record_next}
use Rattle.cob_data.proofs.run_faults.first_records_fault.Goals as goal

pub records-preserved : goal.records-preserved
records-preserved c = record {
  left = rw (c.first_of-found.ensures, c.counted_fault.ensures, c.is_counted-counts.ensures)
      (record_next c.args.area c.args.is_last c.records.found _ c.in-Some.record.now (records_of (drop c.records.place c.args.items.now)) (records_of (drop c.in-Some.past c.args.items.now)) c.in-Some.ensures.items
      c.records.invariant.left);
  within = c.in-Some.ensures.past.1;
}
