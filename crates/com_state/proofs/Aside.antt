-- SEND, ENABLE and DISABLE leave what comes in, and the units.
use Rattle.std.proofs.Common.{◌≡◌, ℕ, Bool, true, false, List, refl, inl, inr}
use Rattle.std.specs.Prelude.{option_map, slice_get}
use Rattle.std.proofs.lemmas.Bool.{cases_Bool}
use Rattle.com_cd.specs.InputArea.{in_field}
use Rattle.com_cd.specs.declared.input_area.InField.TheVariants as field
use Rattle.com_tree.specs.declared.tree.Node.{Node}
use Rattle.com_tree.specs.Places.{top_of}
use Rattle.com_recv.specs.Incoming.{designated}
use Rattle.com_send.specs.Found.{destination_with}
use Rattle.com_send.specs.Sending.{Answer}
use Rattle.com_state.specs.State.{State, destinations_of}
use Rattle.com_state.specs.Answers.{answered}
use Rattle.com_state.specs.Switches.{switch_leaves, switch_terminal, switch_input, is_key}
use Rattle.com_state.proofs.Frames.{option_cases}

-- what SEND and the switches have no part in
pub record SameInput (S next : State) : Type 0 where
  pub net : next.net ≡ S.net
  pub incoming : next.incoming ≡ S.incoming
  pub arrivals : next.arrivals ≡ S.arrivals
  pub units : next.units ≡ S.units
  pub terminals : next.terminals ≡ S.terminals

-- a state and itself
pub same_input : (S : State) → SameInput S S
same_input S = record { net = refl; incoming = refl; arrivals = refl; units = refl; terminals = refl }

-- SEND, and ENABLE and DISABLE OUTPUT
pub aside_answered : (S : State) (answer : Answer) → SameInput S (answered S answer).1
aside_answered S answer = record { net = refl; incoming = refl; arrivals = refl; units = refl; terminals = refl }

-- ENABLE and DISABLE INPUT
aside_leaves : (S : State) (on : Bool) (area key : List ℕ) (node : Node) → SameInput S (switch_leaves S on area key node).1
aside_leaves S on area key node = elim (cases_Bool (is_key key (slice_get S.net.queue_passwords (top_of S.net.tree node)))) [
  | inl right ↦ rw (right, switch_leaves) record { net = refl; incoming = refl; arrivals = refl; units = refl; terminals = refl }
  | inr wrong ↦ rw (wrong, switch_leaves) (same_input S)
]

aside_terminal : (S : State) (on : Bool) (area key : List ℕ) (terminal : ℕ) → SameInput S (switch_terminal S on area key terminal).1
aside_terminal S on area key terminal = elim (cases_Bool (is_key key (option_map (λ t. t.password) (slice_get S.net.terminals terminal)))) [
  | inl right ↦ rw (right, switch_terminal) record { net = refl; incoming = refl; arrivals = refl; units = refl; terminals = refl }
  | inr wrong ↦ rw (wrong, switch_terminal) (same_input S)
]

pub aside_switch_input : (S : State) (on terminal : Bool) (area key : List ℕ) → SameInput S (switch_input S on terminal area key).1
aside_switch_input S on false area key = elim (option_cases (designated S.net.tree area)) [
  | inl none ↦ rw (none, switch_input) (same_input S)
  | inr some ↦ rw (some.1, switch_input) (aside_leaves S on area key some.0)
]
aside_switch_input S on true area key = elim (option_cases (destination_with (destinations_of S.net) (in_field field.Source area))) [
  | inl none ↦ rw (none, switch_input) (same_input S)
  | inr some ↦ rw (some.1, switch_input) (aside_terminal S on area key some.0)
]
