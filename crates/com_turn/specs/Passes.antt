-- What a pass shows, and what the calls on a turn say of it.
use Rattle.std.specs.Prelude.{◌≡◌, ℕ, ◌<◌, Bool, false, List, [], length, Option, None, Some, slice_get, All}
use Rattle.atomic_table.specs.Seated.{TableId}
use Rattle.com_turn.specs.declared.view.Toggle.{Toggle}
use Rattle.com_turn.specs.Histories.{IsPrefixOf, items_of, HasSeen}
use Rattle.com_turn.specs.Toggles.{party_of}

-- which turn it is
abbrev pub TurnId : Type 0
TurnId = TableId

pub record PassState (I B : Type 0) : Type 0 where
  pub turn : TurnId
  pub number : ℕ
  pub parties : ℕ
  -- the base and the log with which the turn was opened; every pass of a turn has a base
  pub base : Option B
  pub opened : List I
  -- the log as far as it has seen it, and who became active or inactive until then
  pub seen : List I
  pub toggles : List Toggle
  pub at_turn : Bool
  pub active : Bool
  -- how often it took the turn
  pub turns : ℕ
  -- what `active` answered last in its last turn, where it neither entered nor left since
  pub found : Option ℕ

-- the pass's own entries: the items of the log past the opening that have its number
abbrev pub mine : {I B : Type 0} → (I → ℕ) → PassState I B → List I
mine owner pass = items_of owner pass.number (length pass.opened) pass.seen

-- the pass of a party when the turn is opened
abbrev pub new_pass : {I B : Type 0} → TurnId → ℕ → B → List I → ℕ → PassState I B
new_pass turn parties base log number = record {
  turn = turn;
  number = number;
  parties = parties;
  base = Some base;
  opened = log;
  seen = log;
  toggles = [];
  at_turn = false;
  active = false;
  turns = 0;
  found = None;
}

-- One pass for each party, in the order of their numbers.
pub record AreNew {I B : Type 0} (turn : TurnId) (parties : ℕ) (base : B) (log : List I) (passes : List (PassState I B)) : Type 0 where
  pub many : length passes ≡ parties
  pub each : (i : ℕ) → i < parties → slice_get passes i ≡ Some (new_pass turn parties base log i)

-- The pass of a party with which the turn may be closed.
pub record IsReady {I B : Type 0} (turn : TurnId) (parties number : ℕ) (pass : PassState I B) : Type 0 where
  pub turn_is : pass.turn ≡ turn
  pub number_is : pass.number ≡ number
  pub parties_are : pass.parties ≡ parties
  pub idle : pass.at_turn ≡ false
  pub inactive : pass.active ≡ false

-- all passes of the turn, in the order of their numbers
abbrev pub AreReady : {I B : Type 0} → TurnId → List (PassState I B) → Type 0
AreReady {I} {B} turn passes = (i : ℕ) (pass : PassState I B) → slice_get passes i ≡ Some pass → IsReady turn (length passes) i pass

-- What is known of a pass and of the value at the end: the base is the pass's, the log begins with what the pass has
-- seen, and the pass's own entries are all that the log has of its party.
pub record IsKept {V I B : Type 0} (log_of : V → List I) (base_of : V → B) (owner : I → ℕ) (value : V) (pass : PassState I B) : Type 0 where
  pub base : pass.base ≡ Some (base_of value)
  pub seen : IsPrefixOf pass.seen (log_of value)
  pub own : items_of owner pass.number (length pass.opened) (log_of value) ≡ mine owner pass

-- the pass has seen a front of these toggles, in which all toggles of its party stand
abbrev pub HasToggles : {I B : Type 0} → List Toggle → PassState I B → Type 0
HasToggles toggles pass = HasSeen party_of pass.number 0 toggles pass.toggles

-- all that became active or inactive stands in one list, of which each pass has seen a front with all toggles of its party
abbrev pub AgreeOnToggles : {I B : Type 0} → List (PassState I B) → Type 0
AgreeOnToggles passes = (toggles : List Toggle) × All (HasToggles toggles) passes
