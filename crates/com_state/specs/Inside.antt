-- How a state is kept, and what contracts see of it.
use Rattle.std.specs.Prelude.{◌≡◌, length}
use Rattle.com_state.specs.declared.state.State.TheInside.{Inside}
use Rattle.com_state.specs.State.{State, destinations_of}
use Rattle.com_state.specs.Kept.{IsSystem}

-- the state
abbrev pub system : Inside → State
system state = record {
  net = state.net;
  incoming = state.queues;
  outgoing = state.outs.outgoing;
  leaf_on = state.leaf_on.items;
  input_on = state.input_on.items;
  arrivals = state.arrivals;
  units = state.units.items;
  terminals = state.terminals.items;
}

-- the parts are those of one network
pub record IsOfOneNet (state : Inside) : Type 0 where
  pub system : IsSystem (system state)
  pub destinations : state.outs.destinations ≡ destinations_of state.net
  pub units : state.outs.units ≡ length state.net.units
