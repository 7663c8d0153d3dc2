use Rattle.std.proofs.Common.{ap, ◌∙◌}
use Rattle.com_state.specs.declared.state.State.TheInside.{Inside}
use Rattle.com_state.specs.Inside.{system}
use Rattle.com_state.proofs.Holding.{put_keeps, put_is}
use Rattle.com_state.proofs.state.State.put.Goals as goal

pub invariant_of-self-2 : goal.invariant_of-self-2
invariant_of-self-2 c =
    let is = rw (← c.self-inside.view_is) at c.self.invariant in
    let entered = ap (λ (i : Inside). system i) c.self-inside.view_is ∙ c.self.view_is in
    record {
      system = put_keeps entered c.args.terminal c.index.result.now c.put.new.self (record { leaf = c.args.leaf; message = c.args.message })
          is.system c.requires.terminal c.index.ensures c.requires.arrivals c.requires.number c.in_default.ensures.ok c.put.ensures.tree;
      destinations = is.destinations;
      units = is.units;
    }

pub returns-clause-ok : goal.returns-clause-ok
returns-clause-ok c =
    let entered = ap (λ (i : Inside). system i) c.self-inside.view_is ∙ c.self.view_is in
    put_is entered c.args.terminal c.index.result.now c.put.new.self (record { leaf = c.args.leaf; message = c.args.message })
    c.requires.terminal c.index.ensures c.requires.number c.in_default.ensures.ok
