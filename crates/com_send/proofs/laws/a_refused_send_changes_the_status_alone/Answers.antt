use Rattle.com_send.proofs.Refused.{refused_send}
use Rattle.com_send.proofs.laws.a_refused_send_changes_the_status_alone.Goals as goal

pub returns : goal.returns
returns c = λ destinations outgoing unit area part item status is refusal tells. refused_send destinations outgoing unit area part item status is refusal tells
