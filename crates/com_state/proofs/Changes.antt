-- What a step may change of the messages: nothing, or one arrives, a unit stops, or a portion is
-- given.
use Rattle.std.proofs.Common.{◌≡◌, ℕ, ◌+◌, not, [], ◌∷◌, ◌++◌, Some, None, Option, List, refl, ap, ◌∙◌, inl, inr}
use Rattle.std.specs.Prelude.{◌==◌, slice_get}
use Rattle.std.specs.List.{filter}
use Rattle.com_msg.specs.declared.message.RawMessage.{RawMessage}
use Rattle.com_msg.specs.declared.rest.Kind.{Kind}
use Rattle.com_msg.specs.Portion.{take_portion}
use Rattle.com_tree.specs.declared.tree.Node.{Node}
use Rattle.com_state.specs.Wholeness.{Arrival, HandedOut, handed_of}
use Rattle.com_state.proofs.Frames.{option_cases}
use Rattle.com_state.proofs.Stays.{StayStopped, stay_chain}
use Rattle.com_state.specs.State.{State, unit_mode}
use Rattle.com_state.specs.declared.parties.UnitMode.{UnitMode}
use Rattle.com_state.specs.declared.parties.TerminalMode.{TerminalMode}
use Rattle.com_state.specs.declared.parties.UnitMode.TheVariants.{Stopped}
use Rattle.com_state.specs.Steps.{with_unit_mode, with_terminal_mode, with_verb, with_arrival}
use Rattle.com_recv.specs.declared.lists.Waiting.{Waiting}
use Rattle.com_recv.specs.Incoming.{without_held, with_held}
use Rattle.com_recv.specs.Receiving.{Next}
use Rattle.com_state.proofs.Verbs.{next_in}

-- what arrives, by what waits then and what was brought
abbrev pub arrival_of : Waiting → RawMessage → Arrival
arrival_of w message = record { number = w.message.arrival; leaf = w.leaf.number; message = message }

-- nothing arrives, and nothing is given or lost
pub record SameStore (S next : State) : Type 0 where
  pub net : next.net ≡ S.net
  pub incoming : next.incoming ≡ S.incoming
  pub arrivals : next.arrivals ≡ S.arrivals

-- a message arrives
pub record Comes (S next : State) (arrived : List Arrival) : Type 0 where
  pub here : Waiting
  pub message : RawMessage
  pub brought : arrived ≡ arrival_of here message ∷ []
  pub number : here.message.arrival ≡ S.arrivals + 1
  pub segments : here.message.segments ≡ message.segments
  pub waiting : next.incoming.waiting ≡ S.incoming.waiting ++ here ∷ []
  pub held : next.incoming.held ≡ S.incoming.held
  pub arrivals : next.arrivals ≡ S.arrivals + 1

-- a unit stops
pub record Stops (S next : State) : Type 0 where
  pub unit : ℕ
  pub has_stopped : unit_mode next unit ≡ Some Stopped
  pub waiting : next.incoming.waiting ≡ S.incoming.waiting
  pub held : next.incoming.held ≡ filter (λ h. not (h.unit == unit)) S.incoming.held
  pub arrivals : next.arrivals ≡ S.arrivals

-- a portion is given
pub record Gives (S next : State) (handed : Option HandedOut) : Type 0 where
  pub unit : ℕ
  pub node : Node
  pub kind : Kind
  pub size : ℕ
  pub found : Next
  pub is_next : next_in S unit node ≡ Some found
  pub given : handed ≡ Some (handed_of unit kind size (take_portion kind size found.rest).0.text found)
  pub waiting : next.incoming.waiting ≡ found.waiting
  pub held : next.incoming.held ≡ with_held unit found.leaf (take_portion kind size found.rest).1 (take_portion kind size found.rest).1.segments (without_held unit found.leaf S.incoming.held)
  pub arrivals : next.arrivals ≡ S.arrivals

-- what a step changes, with what arrives and what is handed out
pub data Change (S next : State) (arrived : List Arrival) (handed : Option HandedOut) : Type 0 where
  quiet : arrived ≡ [] → handed ≡ None → SameStore S next → Change S next arrived handed
  comes : Comes S next arrived → handed ≡ None → Change S next arrived handed
  stops : arrived ≡ [] → handed ≡ None → Stops S next → Change S next arrived handed
  gives : arrived ≡ [] → Gives S next handed → Change S next arrived handed

-- a change in the same network, and no unit begins again
pub record Changed (S next : State) (arrived : List Arrival) (handed : Option HandedOut) : Type 0 where
  pub net : next.net ≡ S.net
  pub stay : StayStopped S next
  pub change : Change S next arrived handed

-- a state and itself
pub same_store : (S : State) → SameStore S S
same_store S = record { net = refl; incoming = refl; arrivals = refl }

-- modes and counts are no part of it
pub store_unit_mode : (unit : ℕ) (mode : UnitMode) (S : State) → SameStore S (with_unit_mode unit mode S)
store_unit_mode unit mode S = elim (option_cases (slice_get S.units unit)) [
  | inl none ↦ rw (none, with_unit_mode) (same_store S)
  | inr some ↦ rw (some.1, with_unit_mode) record { net = refl; incoming = refl; arrivals = refl }
]

pub store_terminal_mode : (terminal : ℕ) (mode : TerminalMode) (S : State) → SameStore S (with_terminal_mode terminal mode S)
store_terminal_mode terminal mode S = elim (option_cases (slice_get S.terminals terminal)) [
  | inl none ↦ rw (none, with_terminal_mode) (same_store S)
  | inr some ↦ rw (some.1, with_terminal_mode) record { net = refl; incoming = refl; arrivals = refl }
]

pub store_verb : (unit : ℕ) (S : State) → SameStore S (with_verb unit S)
store_verb unit S = elim (option_cases (slice_get S.units unit)) [
  | inl none ↦ rw (none, with_verb) (same_store S)
  | inr some ↦ rw (some.1, with_verb) record { net = refl; incoming = refl; arrivals = refl }
]

pub store_arrival : (terminal : ℕ) (S : State) → SameStore S (with_arrival terminal S)
store_arrival terminal S = elim (option_cases (slice_get S.terminals terminal)) [
  | inl none ↦ rw (none, with_arrival) (same_store S)
  | inr some ↦ rw (some.1, with_arrival) record { net = refl; incoming = refl; arrivals = refl }
]

-- nothing changes, and no unit begins again
pub unchanged : (S next : State) → SameStore S next → StayStopped S next → Changed S next [] None
unchanged S next same stay = record { net = same.net; stay = stay; change = quiet refl refl same }

-- each change may be followed by what changes nothing
comes_then : (S mid next : State) (arrived : List Arrival) → SameStore mid next → Comes S mid arrived → Comes S next arrived
comes_then S mid next arrived same first = record {
  here = first.here;
  message = first.message;
  brought = first.brought;
  number = first.number;
  segments = first.segments;
  waiting = ap (λ incoming. incoming.waiting) same.incoming ∙ first.waiting;
  held = ap (λ incoming. incoming.held) same.incoming ∙ first.held;
  arrivals = same.arrivals ∙ first.arrivals;
}

stops_then : (S mid next : State) → SameStore mid next → StayStopped mid next → Stops S mid → Stops S next
stops_then S mid next same stay first = record {
  unit = first.unit;
  has_stopped = stay first.unit first.has_stopped;
  waiting = ap (λ incoming. incoming.waiting) same.incoming ∙ first.waiting;
  held = ap (λ incoming. incoming.held) same.incoming ∙ first.held;
  arrivals = same.arrivals ∙ first.arrivals;
}

gives_then : (S mid next : State) (handed : Option HandedOut) → SameStore mid next → Gives S mid handed → Gives S next handed
gives_then S mid next handed same first = record {
  unit = first.unit;
  node = first.node;
  kind = first.kind;
  size = first.size;
  found = first.found;
  is_next = first.is_next;
  given = first.given;
  waiting = ap (λ incoming. incoming.waiting) same.incoming ∙ first.waiting;
  held = ap (λ incoming. incoming.held) same.incoming ∙ first.held;
  arrivals = same.arrivals ∙ first.arrivals;
}

change_then : (S mid next : State) (arrived : List Arrival) (handed : Option HandedOut) → SameStore mid next → StayStopped mid next → Change S mid arrived handed → Change S next arrived handed
change_then S mid next arrived handed same stay (quiet none no_portion first) =
    quiet none no_portion record {
      net = same.net ∙ first.net;
      incoming = same.incoming ∙ first.incoming;
      arrivals = same.arrivals ∙ first.arrivals;
    }
change_then S mid next arrived handed same stay (comes first no_portion) = comes (comes_then S mid next arrived same first) no_portion
change_then S mid next arrived handed same stay (stops none no_portion first) = stops none no_portion (stops_then S mid next same stay first)
change_then S mid next arrived handed same stay (gives none first) = gives none (gives_then S mid next handed same first)

-- what changes no message may follow
pub changed_then : (S mid next : State) (arrived : List Arrival) (handed : Option HandedOut) → Changed S mid arrived handed → SameStore mid next → StayStopped mid next → Changed S next arrived handed
changed_then S mid next arrived handed first same stay = record {
  net = same.net ∙ first.net;
  stay = stay_chain S mid next first.stay stay;
  change = change_then S mid next arrived handed same stay first.change;
}
