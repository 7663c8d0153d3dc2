-- What holds of every value of the system, and what calls tell of it.
use Rattle.std.specs.Prelude.{◌≡◌, ℕ, ◌≤◌, ◌+◌, Bool, false, List, [], ◌∷◌, length, Option, Some}
use Rattle.std.specs.List.{All}
use Rattle.com_net.specs.Network.{IsNet}
use Rattle.com_recv.specs.Incoming.{IsTreeOf}
use Rattle.com_state.specs.declared.parties.TheConstants.{MAX_ARRIVALS}
use Rattle.com_state.specs.declared.parties.UnitMode.{UnitMode}
use Rattle.com_state.specs.declared.parties.UnitMode.TheVariants.{WaitingFor}
use Rattle.com_state.specs.declared.parties.TerminalState.{TerminalState}
use Rattle.com_state.specs.State.{State, unit_mode}
use Rattle.com_state.specs.Answers.{is_ready}

-- how many messages of all terminals have arrived
abbrev pub total_arrivals : List TerminalState → ℕ
total_arrivals [] = 0
total_arrivals (terminal ∷ terminals) = terminal.arrivals + total_arrivals terminals

-- There is a flag for each leaf and for the input of each terminal, and a state for each unit and
-- each terminal. The messages that have arrived are those of the terminals, none of which has more
-- than it may, and what waits is among them.
pub record IsSystem (S : State) : Type 0 where
  pub net : IsNet S.net
  pub tree : IsTreeOf S.net.tree S.incoming
  pub leaves : length S.leaf_on ≡ length S.net.leaf_on
  pub inputs : length S.input_on ≡ length S.net.terminals
  pub units : length S.units ≡ length S.net.units
  pub terminals : length S.terminals ≡ length S.net.terminals
  pub counted : S.arrivals ≡ total_arrivals S.terminals
  pub few : All (λ terminal. terminal.arrivals ≤ MAX_ARRIVALS) S.terminals
  pub numbered : All (λ w. w.message.arrival ≤ S.arrivals) S.incoming.waiting

-- the unit waits, and its RECEIVE has something to go on with
abbrev pub goes_on : State → ℕ → Option UnitMode → Bool
goes_on S unit (Some (WaitingFor area kind size)) = is_ready S unit area
goes_on S unit _ = false

-- a unit that waits and can go on
abbrev pub is_unit_ready : State → ℕ → Bool
is_unit_ready S unit = goes_on S unit (unit_mode S unit)
