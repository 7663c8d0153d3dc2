use Rattle.std.proofs.Common.{◌+◌, refl}
use Rattle.std.proofs.lemmas.List.{nil_from_length}
use Rattle.cob_data.proofs.EntryLaws.{record_from, no_record_from}
use Rattle.cob_data.proofs.runs.next_record.Goals as goal

pub returns-in_default-clause-items : goal.returns-in_default-clause-items
returns-in_default-clause-items c =
    no_record_from c.args.items.now c.split_at.result.1.now c.split_at-2.result.1.now c.args.from c.count_before_record-skipped.result c.split_at.ensures.back c.count_before_record-skipped.ensures.count c.split_at-2.ensures.back
    (nil_from_length c.split_at-2.result.1.now c.in_default.ensures.cases)

pub returns-clause-items : goal.returns-clause-items
returns-clause-items c =
    record_from c.args.items.now c.split_at.result.1.now c.split_at-2.result.1.now c.in-Some.behind.now c.split_at-3.result.0.now c.in-Some.field-0-0.now c.args.from c.count_before_record-skipped.result
    c.count_before_record-count.result (1 + c.count_before_record-count.result) _
    c.split_at.ensures.back c.count_before_record-skipped.ensures.count c.split_at-2.ensures.back c.in-Some.ensures.cases.0 c.count_before_record-count.ensures.count refl c.split_at-3.ensures.front refl
