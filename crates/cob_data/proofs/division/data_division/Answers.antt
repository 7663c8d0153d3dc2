use Rattle.std.proofs.Common.{◌≡◌, None, sym, ap, ◌∙◌}
use Rattle.cob_forms.specs.Faults.{first}
use Rattle.cob_data.specs.Faults.{data_fault, faults_by, limits}
use Rattle.cob_data.proofs.OccurrenceLaws.{has_occurrences}
use Rattle.cob_data.proofs.division.data_division.Goals as goal

pub returns-in_ok-division_before-in-None-clause-occurrences : goal.returns-in_ok-division_before-in-None-clause-occurrences
returns-in_ok-division_before-in-None-clause-occurrences c =
    let sound : data_fault c.args.tokens.now ≡ None =
    ap (λ read. first (faults_by limits c.args.tokens.now read)) c.in-Ok.ensures.2 ∙ sym c.in_ok-first_fault_before_procedure-in-Ok.ensures ∙ c.in-None.is in
    has_occurrences c.args.tokens.now c.in-Ok.place c.in_ok-division_before-in-None.field-0 sound c.in_ok-division_before-in-None.ensures
