-- What holds of every legal history: messages are handed out whole, to one unit each, and in order.
use Rattle.std.specs.Prelude.{◌≡◌, ℕ, ◌+◌, ◌⊎◌, Bool, true, false, not, ◌&&◌, ◌||◌, ◌==◌, List, [], ◌∷◌, ◌++◌, map, Option, Some, None, option_map, option_and_then, slice_get, IsTrue}
use Rattle.std.specs.List.{concat, filter, list_all, list_any, cons_option}
use Rattle.std.specs.Option.{option_to_list}
use Rattle.std.specs.Str.{bytes_eq}
use Rattle.com_msg.specs.declared.message.RawMessage.{RawMessage}
use Rattle.com_msg.specs.declared.message.End.TheVariants.{Emi, Egi}
use Rattle.com_msg.specs.declared.rest.Kind.{Kind}
use Rattle.com_msg.specs.Portion.{take_portion, last_key}
use Rattle.com_net.specs.declared.net.Net.{Net}
use Rattle.com_events.specs.declared.call.Party.{Party}
use Rattle.com_events.specs.declared.call.Party.TheVariants as party
use Rattle.com_events.specs.declared.call.Call.{Call}
use Rattle.com_events.specs.declared.call.Call.TheVariants.{Receive, Arrive, Stop, Finish}
use Rattle.com_events.specs.declared.reply.Reply.{Reply}
use Rattle.com_events.specs.declared.reply.Reply.TheVariants.{Given, Arrived}
use Rattle.com_events.specs.declared.entry.Entry.{Entry}
use Rattle.com_recv.specs.Incoming.{designated}
use Rattle.com_recv.specs.Receiving.{Next, next_rest}
use Rattle.com_state.specs.declared.parties.UnitMode.TheVariants.{Stopped}
use Rattle.com_state.specs.State.{State, opening, unit_mode}
use Rattle.com_net.specs.Numbers.{unit_number, terminal_number}
use Rattle.com_state.specs.Steps.{step, feed_of}
use Rattle.com_state.specs.Histories.{Legal, LeadsTo}
use Rattle.com_events.specs.Fronts.{IsPrefixOf}

-- one portion that a unit was given: of which message, by its arrival number and its leaf, and what
pub record HandedOut : Type 0 where
  pub unit : ℕ
  pub leaf : ℕ
  pub arrival : ℕ
  pub text : List ℕ
  pub end_key : ℕ

-- the portion that a RECEIVE gives of what it goes on with
abbrev pub handed_of : ℕ → Kind → ℕ → List ℕ → Next → HandedOut
handed_of unit kind size text next = record {
  unit = unit;
  leaf = next.leaf;
  arrival = next.rest.arrival;
  text = text;
  end_key = (take_portion kind size next.rest).0.end_key;
}

-- what an entry hands out, by what RECEIVE goes on with in the state before it
abbrev pub handed_by : State → Party → Call → Reply → Option HandedOut
handed_by S (party.Unit name) (Receive area kind size no_data) (Given given text) =
    option_and_then (λ unit. option_map (handed_of unit kind size text)
    (option_and_then (next_rest S.net.tree S.incoming unit) (designated S.net.tree area)))
    (unit_number S.net name)
handed_by S _ _ _ = None

-- all portions of a history, in order
abbrev pub all_handed : State → List Entry → List HandedOut
all_handed S [] = []
all_handed S (entry ∷ entries) = elim (step S entry.party entry.call) [
  | None ↦ []
  | Some next ↦ cons_option (handed_by S entry.party entry.call entry.reply)
      (all_handed next.1 entries)
]

-- the portions of the message with this arrival number, in order
abbrev pub portions_of : Net → List Entry → ℕ → List HandedOut
portions_of net history arrival =
    filter (λ portion. portion.arrival == arrival) (all_handed (opening net) history)

-- a message that has arrived: its number among all arrivals, the leaf that it waits on, and what it
-- is
pub record Arrival : Type 0 where
  pub number : ℕ
  pub leaf : ℕ
  pub message : RawMessage

-- the messages that an entry brings, in the order of their numbers
abbrev pub arrived_by : State → Party → Call → Reply → List Arrival
arrived_by S (party.Terminal name) (Arrive stamp message) (Arrived number) = option_to_list
    (option_map (λ feed. record {
      number = number;
      leaf = feed.leaf.number;
      message = message;
    }) (option_and_then (feed_of S.net) (terminal_number S.net name)))
arrived_by S _ _ _ = []

-- all arrivals of a history, in order
abbrev pub all_arrived : State → List Entry → List Arrival
all_arrived S [] = []
all_arrived S (entry ∷ entries) = elim (step S entry.party entry.call) [
  | None ↦ []
  | Some next ↦ arrived_by S entry.party entry.call entry.reply ++ all_arrived next.1 entries
]

-- an end key that ends a message
abbrev pub is_last_key : ℕ → Bool
is_last_key key = key == last_key Emi || key == last_key Egi

-- no portion follows one that ends the message
abbrev pub are_ended_once : List HandedOut → Bool
are_ended_once [] = true
are_ended_once (portion ∷ []) = true
are_ended_once (portion ∷ next ∷ portions) =
    not (is_last_key portion.end_key) && are_ended_once (next ∷ portions)

-- the texts of portions, joined
abbrev pub texts_of : List HandedOut → List ℕ
texts_of portions = concat (map (λ portion. portion.text) portions)

-- all of the message was handed out
abbrev pub IsGivenWhole : List HandedOut → RawMessage → Type 0
IsGivenWhole portions message =
    (texts_of portions ≡ concat message.segments)
    × IsTrue (list_any (λ portion. is_last_key portion.end_key) portions)

-- the unit holds what is left of the message, or has stopped
abbrev pub IsLeftWith : State → ℕ → ℕ → Type 0
IsLeftWith S unit arrival =
    IsTrue (list_any (λ h. h.unit == unit && h.rest.arrival == arrival) S.incoming.held)
    ⊎ (unit_mode S unit ≡ Some Stopped)

-- The portions of one message: all of one unit, a prefix of the message, and the whole of it unless
-- the unit still holds the rest or has stopped.
pub record IsHandedTo (S : State) (arrival : ℕ) (message : RawMessage) (portions : List HandedOut)
    (unit : ℕ) : Type 0 where
  pub one_unit : IsTrue (list_all (λ portion. portion.unit == unit) portions)
  pub front : IsPrefixOf (texts_of portions) (concat message.segments)
  pub once : IsTrue (are_ended_once portions)
  pub whole : IsGivenWhole portions message ⊎ IsLeftWith S unit arrival

-- a message that no portion was handed out of, or one unit has
abbrev pub IsWholeMessage : State → ℕ → RawMessage → List HandedOut → Type 0
IsWholeMessage S arrival message [] = Unit {0}
IsWholeMessage S arrival message (portion ∷ portions) =
    IsHandedTo S arrival message (portion ∷ portions) portion.unit

-- the message of a portion is one of these arrivals
abbrev pub has_arrived : List Arrival → HandedOut → Bool
has_arrived arrivals portion = list_any (λ arrival. arrival.number == portion.arrival) arrivals

-- Whole: the arrivals are numbered from 1 in their order, no portion stands before its message has
-- arrived, and each message is handed out whole
pub record Whole (net : Net) (history : List Entry) : Type 0 where
  pub numbered : (n : ℕ) (arrival : Arrival) →
      slice_get (all_arrived (opening net) history) n ≡ Some arrival → arrival.number ≡ n + 1
  pub arrived : (before after : List Entry) → history ≡ before ++ after →
      IsTrue (list_all (has_arrived (all_arrived (opening net) before))
      (all_handed (opening net) before))
  pub messages : (last : State) → LeadsTo (opening net) history last →
      (n : ℕ) (arrival : Arrival) →
      slice_get (all_arrived (opening net) history) n ≡ Some arrival →
      IsWholeMessage last arrival.number arrival.message (portions_of net history arrival.number)

-- the numbers in a list, each once, in the order in which they first come
abbrev pub each_once : List ℕ → List ℕ
each_once [] = []
each_once (n ∷ numbers) = n ∷ filter (λ other. not (other == n)) (each_once numbers)

-- the arrival numbers of the messages of a leaf, in order
abbrev pub numbers_on : ℕ → List Arrival → List ℕ
numbers_on leaf arrivals =
    map (λ arrival. arrival.number) (filter (λ arrival. arrival.leaf == leaf) arrivals)

-- InOrder: the messages of a leaf that have a portion are the first of its arrivals, and their
-- first portions come in that order
abbrev pub InOrder : Net → List Entry → Type 0
InOrder net history = (leaf : ℕ) → IsPrefixOf
    (each_once (map (λ portion. portion.arrival)
    (filter (λ portion. portion.leaf == leaf) (all_handed (opening net) history))))
    (numbers_on leaf (all_arrived (opening net) history))

-- a STOP of the unit of this name
abbrev pub is_stop : List ℕ → Party → Call → Bool
is_stop name (party.Unit other) (Stop reason) = bytes_eq name other
is_stop name _ _ = false

-- an END of the terminal of this name
abbrev pub is_end : List ℕ → Party → Call → Bool
is_end name (party.Terminal other) (Finish reason) = bytes_eq name other
is_end name _ _ = false

-- the entry is a STOP of the unit of this name
abbrev pub is_stop_of : List ℕ → Entry → Bool
is_stop_of name entry = is_stop name entry.party entry.call

-- the entry is an END of the terminal of this name
abbrev pub is_end_of : List ℕ → Entry → Bool
is_end_of name entry = is_end name entry.party entry.call

-- Complete: every unit has a STOP and every terminal an END
pub record Complete (net : Net) (history : List Entry) : Type 0 where
  pub units : IsTrue (list_all (λ unit. list_any (is_stop_of unit.name) history) net.units)
  pub terminals : IsTrue
      (list_all (λ terminal. list_any (is_end_of terminal.name) history) net.terminals)

-- every legal history is so
abbrev pub EveryHistoryIsWhole : Type 0
EveryHistoryIsWhole =
    (net : Net) (history : List Entry) → Legal net history → Whole net history × InOrder net history
