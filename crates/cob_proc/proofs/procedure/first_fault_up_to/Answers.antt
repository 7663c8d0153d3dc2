use Rattle.std.proofs.Common.{◌≡◌, Some, rules}
use Rattle.std.proofs.lemmas.Result.{IfOk-weaker}
use Rattle.cob_lex.specs.declared.fault.SourceKind.TheVariants.{OverLimit}
use Rattle.cob_lex.specs.declared.fault.SourceFault.{SourceFault}
use Rattle.cob_forms.specs.Faults.{earlier, fault, first}
use Rattle.cob_proc.specs.Faults.{procedure_fault, read_faults}
use Rattle.cob_proc.specs.DivisionReaders.{read_procedure}
use Rattle.cob_proc.specs.Limits.{left_of}
use Rattle.cob_proc.proofs.CutFault.{passed_fault}
use Rattle.cob_proc.proofs.procedure.first_fault_up_to.Goals as goal

pub returns-then-left-eq0 : goal.returns-then-left-eq0
returns-then-left-eq0 c =
    let x = c.index-tokens-at.result in
    let tokens_here = c.split_at.result.0.now in
    let none : left_of (read_procedure tokens_here) ≡ 0 = search rules in
    let limit : c.fault_at-limit.result ≡ fault x.line x.column OverLimit = c.fault_at-limit.ensures in
    IfOk-weaker c.first_fault_with.result (λ found. earlier (Some c.fault_at-limit.result) (first (read_faults tokens_here)) ≡ Some found) (λ found. procedure_fault c.args.tokens.now ≡ Some found)
    (λ (found : SourceFault) told. passed_fault c.args.tokens.now tokens_here c.args.at x found c.requires.limit c.requires.in_order c.requires.others c.split_at.ensures.front c.index-tokens-at.is none (rw limit at told))
    c.first_fault_with.ensures
