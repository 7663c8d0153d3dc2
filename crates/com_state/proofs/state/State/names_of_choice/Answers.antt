use Rattle.std.proofs.Common.{ap, ◌∙◌}
use Rattle.com_state.specs.declared.state.State.TheInside.{Inside}
use Rattle.com_state.specs.Inside.{system}
use Rattle.com_state.proofs.Doing.{names_chosen, no_names_chosen}
use Rattle.com_state.proofs.state.State.names_of_choice.Goals as goal

pub returns-in-Some-clause-choice : goal.returns-in-Some-clause-choice
returns-in-Some-clause-choice c =
    let entered = ap (λ (i : Inside). system i) c.self-inside.view_is ∙ c.self.view_is in
    names_chosen entered c.args.node c.in-Some.leaf.number c.path.result c.path_fields.result c.in-Some.ensures.leaf c.path.ensures c.path_fields.ensures.fields

pub returns-in-None-clause-choice : goal.returns-in-None-clause-choice
returns-in-None-clause-choice c =
    let entered = ap (λ (i : Inside). system i) c.self-inside.view_is ∙ c.self.view_is in
    no_names_chosen entered c.args.node c.in-None.ensures.leaf
