use Rattle.std.specs.Prelude.{All}
use Rattle.std.proofs.lemmas.Result.{IfOk-weaker}
use Rattle.com_events.specs.Calls.{HasText}
use Rattle.com_journal.specs.Journals.{IsJournal}
use Rattle.com_journal.specs.Faults.{IsJournalFault}
use Rattle.com_journal.proofs.Exact.{each_good, each_bad}
use Rattle.com_journal.proofs.JournalLaws.{all_have_texts, same_history, no_fault, one_fault}
use Rattle.com_journal.proofs.journal.read.Goals as goal

pub returns-clause-texts : goal.returns-clause-texts
returns-clause-texts c = IfOk-weaker c.read_journal.result _ (All HasText) (λ entries is. all_have_texts entries is.0 is.1) c.read_journal.ensures.read

pub returns-clause-each_journal : goal.returns-clause-each_journal
returns-clause-each_journal c = λ history is.
    let bytes = c.args.bytes.now in
    each_good (λ entries. IsJournal entries bytes) (IsJournalFault bytes) (λ a b. same_history a b bytes) (λ a f. no_fault a bytes f) c.read_journal.result c.read_journal.ensures.read c.read_journal.ensures.refused history is

pub returns-clause-each_fault : goal.returns-clause-each_fault
returns-clause-each_fault c = λ fault is.
    let bytes = c.args.bytes.now in
    each_bad (λ entries. IsJournal entries bytes) (IsJournalFault bytes) (λ f g. one_fault bytes f g) (λ a f. no_fault a bytes f) c.read_journal.result c.read_journal.ensures.read c.read_journal.ensures.refused fault is
