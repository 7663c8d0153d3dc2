-- What the parties of a test know of themselves between two calls.
use Rattle.std.specs.Prelude.{◌≡◌, ℕ, ◌+◌, ◌-◌, ◌<◌, ◌≤◌, false, true, List, [], length, Some, slice_get, slice_index_or, is_some}
use Rattle.com_msg.specs.declared.rest.Kind.TheVariants.{Message}
use Rattle.com_state.specs.State.{opening_unit}
use Rattle.com_state.specs.Steps.{feed_of}
use Rattle.com_state.specs.declared.parties.UnitMode.TheVariants.{Running}
use Rattle.com_state.specs.declared.parties.TerminalMode.TheVariants.{Feeding}
use Rattle.com_shared.specs.Passes.{Place, PassOf, IsPass, IsNew, MayClose, own, unit_now, terminal_now}
use Rattle.com_shared.specs.Waits.{MayReceive}
use Rattle.com_shared.specs.declared.receive.Received.{Received}
use Rattle.com_shared.specs.declared.receive.Received.TheVariants as received

-- a pass of the same party after some calls
pub record GoesOn (place : Place) (before after : PassOf) : Type 0 where
  pub ours : IsPass place after
  pub number : after.number ≡ before.number

-- a unit that has not started
pub record Sleeps (place : Place) (pass : PassOf) : Type 0 where
  pub ours : IsPass place pass
  pub unit : pass.number < length place.net.units
  pub opening : unit_now pass ≡ opening_unit

-- a unit that runs, and has done so many verbs
pub record Runs (place : Place) (verbs : ℕ) (pass : PassOf) : Type 0 where
  pub ours : IsPass place pass
  pub unit : pass.number < length place.net.units
  pub running : unit_now pass ≡ record { mode = Running; verbs = verbs }

-- a unit that has done so many verbs, and runs or waits with this RECEIVE
pub record Receives (place : Place) (done : ℕ) (area : List ℕ) (pass : PassOf) : Type 0 where
  pub ours : IsPass place pass
  pub may : MayReceive place.net area Message 20 false pass
  pub verbs : (unit_now pass).verbs ≡ done

-- what a RECEIVE leaves
abbrev pub HasTaken : Place → ℕ → Received → List ℕ → PassOf → Type 0
HasTaken place verbs received.RoundOver area pass = Receives place verbs area pass
HasTaken place verbs received.Idle area pass = IsPass place pass
HasTaken place verbs _ area pass = Runs place (verbs + 1) pass

-- a terminal with a route that feeds, and of which so many messages have arrived
pub record Feeds (place : Place) (arrivals : ℕ) (pass : PassOf) : Type 0 where
  pub ours : IsPass place pass
  pub terminal : length place.net.units ≤ pass.number
  pub route : is_some (feed_of place.net (pass.number - length place.net.units)) ≡ true
  pub feeding : terminal_now pass ≡ record { mode = Feeding; arrivals = arrivals }

-- passes of a system in which nothing has happened, in the order of their numbers
abbrev pub AllNew : Place → List PassOf → Type 0
AllNew place passes = (k : ℕ) (pass : PassOf) → slice_get passes k ≡ Some pass → IsNew place k pass

-- a pass whose party has made no entry
pub record IsFresh (place : Place) (pass : PassOf) : Type 0 where
  pub ours : IsPass place pass
  pub unmade : own pass ≡ []

-- the pass of the same party, which still has made no entry
pub record StaysFresh (place : Place) (before after : PassOf) : Type 0 where
  pub fresh : IsFresh place after
  pub number : after.number ≡ before.number

-- the pass of the same party, with which the system may be closed
pub record HasLeft (place : Place) (before after : PassOf) : Type 0 where
  pub closes : MayClose place before.number after

-- each of them
abbrev pub AllStayFresh : Place → List PassOf → List PassOf → Type 0
AllStayFresh place before after = (k : ℕ) (d : PassOf) → k < length before →
    StaysFresh place (slice_index_or before k d) (slice_index_or after k d)

abbrev pub HaveAllLeft : Place → List PassOf → List PassOf → Type 0
HaveAllLeft place before after = (k : ℕ) (d : PassOf) → k < length before →
    HasLeft place (slice_index_or before k d) (slice_index_or after k d)
