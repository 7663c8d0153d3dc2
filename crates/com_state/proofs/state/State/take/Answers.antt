use Rattle.com_state.proofs.Holding.{numbered_after}
use Rattle.com_state.proofs.Portions.{short_taken}
use Rattle.com_state.proofs.state.State.take.Goals as goal

pub invariant_of-self : goal.invariant_of-self
invariant_of-self c =
    let is = rw (← c.self-inside.view_is) at c.self.invariant in
    let inside = c.self-inside.inside in
    record {
      system = record {
        net = is.system.net;
        tree = c.receive.ensures.tree;
        leaves = is.system.leaves;
        inputs = is.system.inputs;
        units = is.system.units;
        terminals = is.system.terminals;
        counted = is.system.counted;
        few = is.system.few;
        numbered = numbered_after inside.0.1.1.1.1.1.0 inside.0.0.tree inside.0.1.0 c.args.unit c.args.area c.args.kind c.args.size c.receive.result c.receive.new.area c.receive.new.self
            c.receive.ensures.received c.receive.ensures.err is.system.numbered;
      };
      destinations = is.destinations;
      units = is.units;
    }

pub receive_told-requires : goal.receive_told-requires
receive_told-requires c =
    let inside = c.self-inside.inside in
    short_taken c.args.self.now inside.0.0.tree inside.0.1.0 c.args.unit c.args.area c.args.kind c.args.size c.in_ok-taken.taken c.receive.new.area c.receive.new.self
    c.requires.1 c.in_ok-taken.ensures.received

pub returns-clause-reply : goal.returns-clause-reply
returns-clause-reply c no_data = c.receive_told.ensures.fits c.args.area c.args.kind c.args.size no_data
