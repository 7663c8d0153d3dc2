use Rattle.std.proofs.Common.{List, ap, ◌∙◌}
use Rattle.com_send.specs.declared.destination.Destination.{Destination}
use Rattle.com_send.specs.Sending.{Answer}
use Rattle.com_send.specs.Switching.{switch_output}
use Rattle.com_state.specs.State.{State, destinations_of}
use Rattle.com_state.specs.Answers.{answered}
use Rattle.com_state.specs.Inside.{system}
use Rattle.com_state.proofs.state.State.switch_destinations.Goals as goal

pub returns-clause-switched : goal.returns-clause-switched
returns-clause-switched c =
    rw c.output_told.ensures.told
    (ap (λ (answer : Answer). answered (system c.self.inside) answer)
    (c.in_ok-switch.ensures.switched ∙ ap (λ (destinations : List Destination). switch_output destinations c.self.inside.outs.outgoing c.args.on c.args.area c.args.key.now) c.self.invariant.destinations)
    ∙ ap (λ (S : State). answered S (switch_output (destinations_of S.net) S.outgoing c.args.on c.args.area c.args.key.now)) c.self.view_is)
