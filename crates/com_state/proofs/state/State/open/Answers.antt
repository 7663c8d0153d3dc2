use Rattle.std.proofs.Common.{◌≡◌, rules, subst}
use Rattle.com_net.specs.Network.{IsNet}
use Rattle.com_state.specs.State.{opening}
use Rattle.com_state.specs.Inside.{system}
use Rattle.com_state.proofs.Holding.{system_opening}
use Rattle.com_state.proofs.state.State.open.Goals as goal

pub invariant_of-result : goal.invariant_of-result
invariant_of-result c =
    let opened : system (record {
      net = c.in_ok-net.net;
      queues = c.in_ok-queues.queues;
      outs = c.in_ok-outs.outs;
      leaf_on = c.in_ok-leaf_on.leaf_on;
      input_on = c.in_ok-input_on.input_on;
      arrivals = 0;
      units = c.in_ok-units.units;
      terminals = c.in_ok-terminals.terminals;
    }) ≡ opening c.args.net.now = search rules in
    record {
      system = rw opened (system_opening c.args.net.now (subst IsNet c.net.view_is c.net.invariant.0));
      destinations = search rules;
      units = search rules;
    }
