-- The one-thread system: its states.
use Rattle.std.specs.Prelude.{ℕ, Bool, List, length, map, replicate, Option, option_map, slice_get}
use Rattle.com_net.specs.declared.net.Net.{Net}
use Rattle.com_recv.specs.Incoming.{Incoming, nothing}
use Rattle.com_send.specs.declared.destination.Destination.{Destination}
use Rattle.com_send.specs.Outgoing.{Outgoing}
use Rattle.com_send.specs.Outgoing as sending
use Rattle.com_state.specs.declared.parties.UnitMode.{UnitMode}
use Rattle.com_state.specs.declared.parties.UnitMode.TheVariants.{Dormant}
use Rattle.com_state.specs.declared.parties.UnitState.{UnitState}
use Rattle.com_state.specs.declared.parties.TerminalMode.{TerminalMode}
use Rattle.com_state.specs.declared.parties.TerminalMode.TheVariants.{Feeding}
use Rattle.com_state.specs.declared.parties.TerminalState.{TerminalState}

-- Units, terminals and leaves are named by their numbers in the network, from 0.
pub record State : Type 0 where
  -- no step changes it
  pub net : Net
  -- the messages that wait, and what units hold of messages
  pub incoming : Incoming
  -- for each terminal what units have begun to send to it, what is queued for it and what was sent,
  -- and whether its output is enabled
  pub outgoing : Outgoing
  -- which leaves are enabled, and which terminals for input
  pub leaf_on : List Bool
  pub input_on : List Bool
  -- how many messages have arrived
  pub arrivals : ℕ
  pub units : List UnitState
  pub terminals : List TerminalState

-- the terminals as destinations
abbrev pub destinations_of : Net → List Destination
destinations_of net = map (λ terminal. record {
  name = terminal.name;
  password = terminal.password;
  on = terminal.output_on;
}) net.terminals

-- a unit that has not started
abbrev pub opening_unit : UnitState
opening_unit = record { mode = Dormant; verbs = 0 }

-- a terminal of which nothing has arrived
abbrev pub opening_terminal : TerminalState
opening_terminal = record { mode = Feeding; arrivals = 0 }

-- nothing has happened: the net's flags, all units dormant, all terminals feeding
abbrev pub opening : Net → State
opening net = record {
  net = net;
  incoming = nothing;
  outgoing = sending.opening (destinations_of net) (length net.units);
  leaf_on = net.leaf_on;
  input_on = map (λ terminal. terminal.input_on) net.terminals;
  arrivals = 0;
  units = replicate (length net.units) opening_unit;
  terminals = replicate (length net.terminals) opening_terminal;
}

-- the mode of a unit, where there is such a unit
abbrev pub unit_mode : State → ℕ → Option UnitMode
unit_mode S unit = option_map (λ u. u.mode) (slice_get S.units unit)

-- the mode of a terminal, where there is such a terminal
abbrev pub terminal_mode : State → ℕ → Option TerminalMode
terminal_mode S terminal = option_map (λ t. t.mode) (slice_get S.terminals terminal)
