use Rattle.std.proofs.Common.{Option, ap, ◌∙◌}
use Rattle.std.specs.Prelude.{is_some, option_and_then}
use Rattle.com_tree.specs.declared.tree.Node.{Node}
use Rattle.com_recv.specs.Receiving.{next_rest}
use Rattle.com_state.specs.declared.state.State.TheInside.{Inside}
use Rattle.com_state.specs.State.{State}
use Rattle.com_state.specs.Answers.{is_ready}
use Rattle.com_state.specs.Inside.{system}
use Rattle.com_state.proofs.state.State.is_ready.Goals as goal

pub returns-in-Some : goal.returns-in-Some
returns-in-Some c =
    let area = c.args.area.now in
    c.has_data.ensures.data
    ∙ (ap (λ (o : Option Node). is_some (option_and_then (next_rest c.self-inside.inside.0.0.tree c.self-inside.inside.0.1.0 c.args.unit) o)) c.in-Some.ensures.node
    ∙ ap (λ (S : State). is_ready S c.args.unit area) (ap (λ (i : Inside). system i) c.self-inside.view_is ∙ c.self.view_is))
