use Rattle.cob_forms.proofs.Order.{first-append}
use Rattle.cob_forms.proofs.laws.first_of_both.Goals as goal

pub returns : goal.returns
returns c = first-append
