use Rattle.std.proofs.Common.{◌≡◌, true}
use Rattle.std.proofs.lemmas.Result.{IfOk-weaker}
use Rattle.cob_forms.specs.Faults.{first}
use Rattle.cob_data.specs.Faults.{limits, other_faults}
use Rattle.cob_data.proofs.Joined.{ended}
use Rattle.cob_data.proofs.division.first_fault_before_procedure.Goals as goal

pub returns : goal.returns
returns c =
    IfOk-weaker c.first_other_fault.result (λ found. found ≡ first (other_faults limits true c.split_at-2.result.0.now c.split_at.result.0.now)) _
    (λ found h. ended c.args.tokens.now c.split_at-2.result.0.now c.split_at.result.0.now c.args.place found c.requires.within c.split_at-2.ensures.front c.split_at.ensures.front h)
    c.first_other_fault.ensures
