-- What the seats at the table know, and what the steps make of it.
use Rattle.std.specs.Prelude.{◌≡◌, ℕ, ◌+◌, ◌⊎◌, Contains, Bool, true, false, List, [], ◌∷◌, ◌++◌, Option, None, Some, if◌then◌else◌}
use Rattle.atomic_table.specs.declared.shared.Seat.{Seat}
use Rattle.com_turn.specs.declared.view.Toggle.{Toggle}
use Rattle.com_turn.specs.declared.view.Known.{Known}
use Rattle.com_turn.specs.declared.view.Stage.{Stage}
use Rattle.com_turn.specs.declared.view.Stage.TheVariants.{Idle, Waiting, Holding}
use Rattle.com_turn.specs.declared.view.View.{View}
use Rattle.com_turn.specs.Histories.{IsPrefixOf, longer}
use Rattle.com_turn.specs.Toggles.{toggle_of}
use Rattle.com_turn.specs.Passes.{PassState}

abbrev pub HasTicket : Stage → ℕ → Type 0
HasTicket Idle ticket = ⊥
HasTicket (Waiting own) ticket = own ≡ ticket
HasTicket (Holding own) ticket = own ≡ ticket

-- 1 where a ticket is out
abbrev pub tickets_out : Stage → ℕ
tickets_out Idle = 0
tickets_out (Waiting ticket) = 1
tickets_out (Holding ticket) = 1

abbrev pub is_at_turn : Stage → Bool
is_at_turn Idle = false
is_at_turn (Waiting ticket) = false
is_at_turn (Holding ticket) = true

abbrev pub number_or_0 : Option ℕ → ℕ
number_or_0 None = 0
number_or_0 (Some n) = n

module _ {I B : Type 0} where
  abbrev pub ticket_of : View I B → ℕ
  ticket_of view = tickets_out view.stage

  abbrev pub active_of : View I B → ℕ
  active_of view = if view.active then 1 else 0

  -- the view with which a turn is opened, which keeps the count of numbers given out
  abbrev pub first_view : List I → B → ℕ → View I B
  first_view log base parties = record {
    known = record { number = 0; parties = parties; base = Some base; opened = log; seen = log; toggles = [] };
    olds = [];
    stage = Idle;
    active = false;
    turns = 0;
    found = None;
    count = Some 1;
    spent = false;
  }

  -- what is left of a view that ended in another
  abbrev pub spent_view : View I B
  spent_view = record {
    known = record { number = 0; parties = 0; base = None; opened = []; seen = []; toggles = [] };
    olds = [];
    stage = Idle;
    active = false;
    turns = 0;
    found = None;
    count = None;
    spent = true;
  }

  abbrev pub at_stage : Stage → View I B → View I B
  at_stage stage view = record view { stage = stage }

  -- the view that has come to its turn, and has seen the log and all toggles
  abbrev pub served : ℕ → List I → List Toggle → View I B → View I B
  served ticket log toggles view = record view {
    known = record view.known { seen = log; toggles = toggles };
    stage = Holding ticket;
    turns = view.turns + 1;
    found = None;
  }

  abbrev pub with_item : I → View I B → View I B
  with_item item view = record view { known = record view.known { seen = view.known.seen ++ item ∷ [] } }

  -- the view that has become active or inactive
  abbrev pub with_toggle : Bool → View I B → View I B
  with_toggle active view = record view {
    known = record view.known { toggles = view.known.toggles ++ toggle_of view.known.number active ∷ [] };
    active = active;
    found = None;
  }

  abbrev pub with_found : ℕ → View I B → View I B
  with_found found view = record view { found = Some found }

  -- the view that gave a number out, and the one that has got it
  abbrev pub with_next_count : View I B → View I B
  with_next_count view = record view { count = Some (number_or_0 view.count + 1) }

  abbrev pub view_of_next : View I B → View I B
  view_of_next view = record {
    known = record view.known { number = number_or_0 view.count };
    olds = [];
    stage = Idle;
    active = false;
    turns = 0;
    found = None;
    count = None;
    spent = false;
  }

  -- the view that took another in, and the other is spent
  abbrev pub joined : View I B → View I B → View I B
  joined view other = record view {
    known = record view.known { seen = longer view.known.seen other.known.seen; toggles = longer view.known.toggles other.known.toggles };
    olds = view.known ∷ other.known ∷ (view.olds ++ other.olds);
    count = None;
  }

-- the slot that is out with a seat at its turn, whose value its caller has
abbrev pub carried : {S : Type 0} → Stage → List (ℕ × Option S)
carried Idle = []
carried (Waiting ticket) = []
carried (Holding ticket) = (0, None) ∷ []

-- what a pass shows of its seat
abbrev pub shown : {V I B : Type 0} → Seat (Option V) (View I B) → PassState I B
shown seat = let view = seat.me.0 in record {
  turn = seat.table_id;
  number = view.known.number;
  parties = view.known.parties;
  base = view.known.base;
  opened = view.known.opened;
  seen = view.known.seen;
  toggles = view.known.toggles;
  at_turn = is_at_turn view.stage;
  active = view.active;
  turns = view.turns;
  found = view.found;
}

-- what the view of a pass knows
abbrev pub known_of : {I B : Type 0} → PassState I B → Known I B
known_of pass = record { number = pass.number; parties = pass.parties; base = pass.base; opened = pass.opened; seen = pass.seen; toggles = pass.toggles }

-- the view knows it, or took it in
abbrev pub Gathers : {I B : Type 0} → View I B → Known I B → Type 0
Gathers view known = (view.known ≡ known) ⊎ Contains view.olds known

-- A seat as a pass has it between two calls: live, with no olds, and without a ticket or at its turn.
pub record IsSettled {V I B : Type 0} (seat : Seat (Option V) (View I B)) : Type 0 where
  pub no_ticket : is_at_turn seat.me.0.stage ≡ false → seat.me.0.stage ≡ Idle
  pub slots : seat.me.1 ≡ carried seat.me.0.stage
  pub no_olds : seat.me.0.olds ≡ []
  pub live : seat.me.0.spent ≡ false
  pub past_opening : IsPrefixOf seat.me.0.known.opened seat.me.0.known.seen
