-- What holds of every state that a legal history leaves.
use Rattle.std.specs.Prelude.{◌≡◌, ◌≢◌, ℕ, ◌≤◌, List, length, Some, slice_get}
use Rattle.std.specs.List.{All, AllPairs}
use Rattle.com_net.specs.declared.net.Net.{Net}
use Rattle.com_net.specs.Numbers.{unit_number, terminal_number}
use Rattle.com_events.specs.declared.call.Party.TheVariants as party
use Rattle.com_events.specs.declared.entry.Entry.{Entry}
use Rattle.com_recv.specs.declared.lists.Held.{Held}
use Rattle.com_recv.specs.Incoming.{IsEarlier}
use Rattle.com_send.specs.Outgoing.{AreFor}
use Rattle.com_state.specs.declared.parties.TheConstants.{MAX_VERBS, MAX_ARRIVALS}
use Rattle.com_state.specs.State.{State, destinations_of}
use Rattle.com_state.specs.Parties.{entries_of, unit_by, terminal_by}

-- two rests are of two units, or come from two leaves
abbrev pub AreApart : Held → Held → Type 0
AreApart h other = h.unit ≡ other.unit → h.leaf.number ≢ other.leaf.number

-- no count is beyond its limit
pub record KeepsLimits (S : State) : Type 0 where
  pub verbs : All (λ unit. unit.verbs ≤ MAX_VERBS) S.units
  pub arrivals : All (λ terminal. terminal.arrivals ≤ MAX_ARRIVALS) S.terminals

-- There is a flag for each leaf and for the input of each terminal, and a state for each unit and
-- each terminal, as a terminal and as a destination; no count is beyond its limit. A unit holds one
-- rest from a leaf at most, and no rest is spent. The messages that wait stand in the order of
-- their arrival numbers, which are those of messages that have arrived.
pub record IsConsistent (S : State) : Type 0 where
  pub leaves : length S.leaf_on ≡ length S.net.leaf_on
  pub inputs : length S.input_on ≡ length S.net.terminals
  pub outputs : AreFor (destinations_of S.net) (length S.net.units) S.outgoing
  pub units : length S.units ≡ length S.net.units
  pub terminals : length S.terminals ≡ length S.net.terminals
  pub verbs : All (λ unit. unit.verbs ≤ MAX_VERBS) S.units
  pub arrivals : All (λ terminal. terminal.arrivals ≤ MAX_ARRIVALS) S.terminals
  pub apart : AllPairs AreApart S.incoming.held
  pub unspent : All (λ h. 1 ≤ length h.rest.segments) S.incoming.held
  pub in_order : AllPairs IsEarlier S.incoming.waiting
  pub numbered : All (λ w. w.message.arrival ≤ S.arrivals) S.incoming.waiting

-- The state tells of each party what its own entries tell: its mode, and its number of verbs or of
-- arrivals.
pub record IsToldBy (network : Net) (history : List Entry) (S : State) : Type 0 where
  pub net : S.net ≡ network
  pub units : (name : List ℕ) (unit : ℕ) → unit_number network name ≡ Some unit →
      slice_get S.units unit ≡ Some (unit_by (entries_of (party.Unit name) history))
  pub terminals : (name : List ℕ) (terminal : ℕ) → terminal_number network name ≡ Some terminal →
      slice_get S.terminals terminal
      ≡ Some (terminal_by (entries_of (party.Terminal name) history))
