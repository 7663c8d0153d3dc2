use Rattle.std.proofs.Common.{List, ap, ◌∙◌}
use Rattle.std.specs.Option.{option_copied}
use Rattle.com_send.specs.declared.destination.Destination.{Destination}
use Rattle.com_send.specs.Sending.{Answer, send}
use Rattle.com_state.specs.State.{State, destinations_of}
use Rattle.com_state.specs.Answers.{answered}
use Rattle.com_state.specs.Inside.{system}
use Rattle.com_state.proofs.state.State.send_part.Goals as goal

pub returns-clause-sent : goal.returns-clause-sent
returns-clause-sent c =
    let item = option_copied c.args.from in
    rw c.output_told.ensures.told
    (ap (λ (answer : Answer). answered (system c.self.inside) answer)
    (c.in_ok-send.ensures.sent ∙ ap (λ (destinations : List Destination). send destinations c.self.inside.outs.outgoing c.args.unit c.args.area c.args.part item) c.self.invariant.destinations)
    ∙ ap (λ (S : State). answered S (send (destinations_of S.net) S.outgoing c.args.unit c.args.area c.args.part item)) c.self.view_is)
