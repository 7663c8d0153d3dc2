use Rattle.std.proofs.Common.{◌<◌, List, length, sym, ap, subst, ◌∙◌, arith}
use Rattle.std.specs.List.{All}
use Rattle.std.proofs.lemmas.List.{length-map}
use Rattle.com_msg.specs.Rendering.{IsRenderable}
use Rattle.com_msg.specs.declared.sending.OutMessage.{OutMessage}
use Rattle.com_send.specs.declared.output.Output.{Output}
use Rattle.com_send.specs.Kept.{state_of}
use Rattle.com_send.proofs.Keeping.{sent_renders}
use Rattle.com_send.proofs.outs.Outs.transmitted.Goals as goal

pub returns-clause-renderable : goal.returns-clause-renderable
returns-clause-renderable c =
    let outputs = c.self.inside.outputs.items in
    let at = c.args.destination in
    let lent = c.index.result.now in
    let known : at < length c.self.inside.destinations = rw (← c.self.view_is) at c.requires in
    let many = c.self.invariant.many in
    let kept = length-map outputs state_of in
    let within : at < length outputs = omega arith in
    let same = ap (λ (output : Output). output.sent.items) c.index.ensures in
    subst (λ (messages : List OutMessage). All IsRenderable messages) (sym same ∙ sym c.as_slice.ensures.value)
    (sent_renders outputs at lent c.self.invariant.renderable within)
