use Rattle.com_send.proofs.Refused.{refused_switch}
use Rattle.com_send.proofs.laws.a_refused_switch_changes_the_status_alone.Goals as goal

pub returns : goal.returns
returns c = λ destinations outgoing on area key status is refusal tells. refused_switch destinations outgoing on area key status is refusal tells
