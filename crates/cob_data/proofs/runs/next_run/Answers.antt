use Rattle.std.proofs.Common.{refl}
use Rattle.std.proofs.lemmas.List.{nil_from_length}
use Rattle.cob_data.proofs.EntryLaws.{run_from, no_run_from}
use Rattle.cob_data.proofs.runs.next_run.Goals as goal

pub returns-in_default-clause-run : goal.returns-in_default-clause-run
returns-in_default-clause-run c =
    no_run_from c.args.entries.now c.split_at.result.1.now c.split_at-2.result.1.now c.args.from c.item_count-skipped.result c.split_at.ensures.back c.item_count-skipped.ensures.count c.split_at-2.ensures.back
    (nil_from_length c.split_at-2.result.1.now c.in_default.ensures.cases)

pub returns-clause-run : goal.returns-clause-run
returns-clause-run c =
    run_from c.args.entries.now c.split_at.result.1.now c.split_at-2.result.1.now c.in-Some.behind.now c.split_at-3.result.0.now c.in-Some.head.now c.args.from c.item_count-skipped.result c.item_count-count.result _
    c.split_at.ensures.back c.item_count-skipped.ensures.count c.split_at-2.ensures.back c.in-Some.ensures.cases.0 c.item_count-count.ensures.count c.split_at-3.ensures.front refl
