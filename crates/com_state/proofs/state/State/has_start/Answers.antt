use Rattle.std.proofs.Common.{Option, ap, ◌∙◌}
use Rattle.std.specs.Prelude.{is_some}
use Rattle.com_tree.specs.declared.tree.Node.{Node}
use Rattle.com_state.specs.declared.state.State.TheInside.{Inside}
use Rattle.com_state.specs.Inside.{system}
use Rattle.com_state.specs.Steps.{start}
use Rattle.com_state.proofs.Doing.{start_chosen}
use Rattle.com_state.proofs.state.State.has_start.Goals as goal

pub returns-in-Some : goal.returns-in-Some
returns-in-Some c =
    let entered = ap (λ (i : Inside). system i) c.self-inside.view_is ∙ c.self.view_is in
    c.has_message.ensures.choice
    ∙ (start_chosen entered c.args.unit c.in-Some.node
    ∙ ap (λ (schedule : Option Node). is_some (start c.args.self.now c.args.unit schedule)) c.in-Some.ensures.schedule)
