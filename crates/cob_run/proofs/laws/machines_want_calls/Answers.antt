use Rattle.cob_run.proofs.Calls.{wants_it}
use Rattle.cob_run.proofs.laws.machines_want_calls.Goals as goal

pub returns : goal.returns
returns c = λ program code names replies calls m request waiting h is.
    wants_it program code names replies calls m request waiting h is
