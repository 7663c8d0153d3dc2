use Rattle.com_journal.specs.Scripts.{IsScript}
use Rattle.com_journal.specs.Faults.{IsScriptFault}
use Rattle.com_journal.proofs.Exact.{each_good, each_bad}
use Rattle.com_journal.proofs.ScriptLaws.{same_calls, no_script_fault, one_script_fault}
use Rattle.com_journal.proofs.script.read_calls.Goals as goal

pub returns-clause-each_script : goal.returns-clause-each_script
returns-clause-each_script c = λ calls is.
    let bytes = c.args.bytes.now in
    each_good (λ calls. IsScript calls bytes) (IsScriptFault bytes) (λ a b. same_calls a b bytes) (λ a f. no_script_fault a bytes f) c.read_script.result c.read_script.ensures.read c.read_script.ensures.refused calls is

pub returns-clause-each_fault : goal.returns-clause-each_fault
returns-clause-each_fault c = λ fault is.
    let bytes = c.args.bytes.now in
    each_bad (λ calls. IsScript calls bytes) (IsScriptFault bytes) (λ f g. one_script_fault bytes f g) (λ a f. no_script_fault a bytes f) c.read_script.result c.read_script.ensures.read c.read_script.ensures.refused fault is
