-- Networks of the worked histories, and what is said of a history.
use Rattle.std.specs.Prelude.{◌≡◌, ℕ, Bool, true, false, List, [], ◌∷◌, ◌++◌, map, Option, Some, None, option_map, codes}
use Rattle.com_msg.specs.Begun.{Begun}
use Rattle.com_msg.specs.declared.sending.OutMessage.{OutMessage}
use Rattle.com_tree.specs.declared.tree.TreeRow.{TreeRow}
use Rattle.com_tree.specs.declared.tree.Node.{Node}
use Rattle.com_tree.specs.declared.tree.Choose.{Choose}
use Rattle.com_net.specs.declared.net.Net.{Net}
use Rattle.com_net.specs.declared.net.Feed.{Feed}
use Rattle.com_net.specs.declared.net.Terminal.{Terminal}
use Rattle.com_net.specs.declared.net.UnitRow.{UnitRow}
use Rattle.std.proofs.Common.{rules}
use Rattle.com_net.specs.Network.{IsNet}
use Rattle.com_events.specs.declared.call.Party.{Party}
use Rattle.com_events.specs.declared.call.Call.{Call}
use Rattle.com_events.specs.declared.reply.Reply.{Reply}
use Rattle.com_events.specs.declared.entry.Entry.{Entry}
use Rattle.com_recv.specs.declared.lists.Held.{Held}
use Rattle.com_state.specs.State.{State, opening}
use Rattle.com_state.specs.Histories.{run, call_made, state_after}
use Rattle.com_state.specs.Transcripts.{transcript_of}
use Rattle.com_state.specs.Wholeness.{HandedOut, all_handed, all_arrived, numbers_on}
use Rattle.com_msg.specs.declared.framing.Framing.TheVariants as framing
use Rattle.com_tree.specs.declared.tree.Choose.TheVariants as choose
use Rattle.com_events.specs.declared.call.Party.TheVariants as party

-- what was transmitted and what is queued, for each terminal
abbrev pub delivered : State → List (List OutMessage) × List (List OutMessage)
delivered S = (map (λ d. d.sent) S.outgoing, map (λ d. d.queued) S.outgoing)

-- these messages are transmitted and queued after these calls, for each terminal
abbrev pub Delivers : Net → List Entry → List (List OutMessage) → List (List OutMessage) → Type 0
Delivers net history sent queued =
    option_map delivered (state_after net history) ≡ Some (sent, queued)

-- this is begun after these calls, for each terminal by each unit
abbrev pub Begins : Net → List Entry → List (List Begun) → Type 0
Begins net history begun =
    option_map (λ S. map (λ d. d.begun) S.outgoing) (state_after net history) ≡ Some begun

-- the units hold this after these calls
abbrev pub Holds : Net → List Entry → List Held → Type 0
Holds net history held = option_map (λ S. S.incoming.held) (state_after net history) ≡ Some held

-- whether each leaf is enabled after these calls
abbrev pub Enables : Net → List Entry → List Bool → Type 0
Enables net history leaf_on =
    option_map (λ S. S.leaf_on) (state_after net history) ≡ Some leaf_on

-- the units have done so many verbs after these calls
abbrev pub Counts : Net → List Entry → List ℕ → Type 0
Counts net history verbs =
    option_map (λ S. map (λ unit. unit.verbs) S.units) (state_after net history) ≡ Some verbs

-- so many messages of the terminals have arrived after these calls
abbrev pub Takes : Net → List Entry → List ℕ → Type 0
Takes net history arrivals =
    option_map (λ S. map (λ terminal. terminal.arrivals) S.terminals) (state_after net history)
    ≡ Some arrivals

-- this call is not possible after these
abbrev pub Excludes : Net → List Entry → Party → Call → Type 0
Excludes net history who call = run net (map call_made history ++ (who, call) ∷ []) ≡ None

-- whether each terminal's output is enabled after these calls
abbrev pub Outputs : Net → List Entry → List Bool → Type 0
Outputs net history flags =
    option_map (λ S. map (λ d. d.on) S.outgoing) (state_after net history) ≡ Some flags

-- what was transmitted to a terminal after these calls
abbrev pub Prints : Net → List Entry → ℕ → List ℕ → Type 0
Prints net history terminal bytes = transcript_of net history terminal ≡ bytes

-- to a unit, from a leaf, of the message with this arrival number
abbrev pub handed : ℕ → ℕ → ℕ → List ℕ → ℕ → HandedOut
handed unit leaf arrival text end_key = record {
  unit = unit;
  leaf = leaf;
  arrival = arrival;
  text = text;
  end_key = end_key;
}

-- these portions are handed out, in this order
abbrev pub HandsOut : Net → List Entry → List HandedOut → Type 0
HandsOut net history portions = all_handed (opening net) history ≡ portions

-- these are the numbers of the messages that arrive on a leaf
abbrev pub Brings : Net → List Entry → ℕ → List ℕ → Type 0
Brings net history leaf numbers = numbers_on leaf (all_arrived (opening net) history) ≡ numbers

abbrev pub by_unit : List ℕ → Call → Reply → Entry
by_unit name call reply = record { party = party.Unit name; call = call; reply = reply }

abbrev pub by_terminal : List ℕ → Call → Reply → Entry
by_terminal name call reply = record { party = party.Terminal name; call = call; reply = reply }

-- what a terminal types goes to a leaf
abbrev pub feed_to : ℕ → Feed
feed_to leaf = record {
  file = codes "T.IN";
  framing = framing.Lines;
  leaf = record { number = leaf };
}

-- a terminal, where its messages go, and whether its output is enabled
abbrev pub terminal_of : List ℕ → List ℕ → Option Feed → Bool → Terminal
terminal_of name password feed output_on = record {
  name = name;
  password = password;
  feed = feed;
  input_on = true;
  output_on = output_on;
}

-- a unit, and the node whose first message starts it
abbrev pub unit_of : List ℕ → Option Node → UnitRow
unit_of name schedule = record { name = name; source = codes "U.CBL"; schedule = schedule }

-- a terminal that types for a leaf
abbrev pub typing : List ℕ → ℕ → Terminal
typing name leaf = terminal_of name (codes "P") (Some (feed_to leaf)) true

-- one queue without sub-queues
abbrev pub q1_tree : List TreeRow
q1_tree = record { depth = 1; name = codes "Q1"; choose = None } ∷ []

abbrev pub t1 : Terminal
t1 = terminal_of (codes "T1") (codes "TPASS") (Some (feed_to 0)) true

abbrev pub t2 : Terminal
t2 = terminal_of (codes "T2") (codes "OTHER") None false

-- the queue Q1, enabled or not, with these terminals and units
abbrev pub q1_net : List Terminal → Bool → List UnitRow → Net
q1_net terminals leaf_on units = record {
  terminals = terminals;
  tree = q1_tree;
  queue_passwords = codes "QPASS" ∷ [];
  leaf_on = leaf_on ∷ [];
  units = units;
}

abbrev pub echo : UnitRow
echo = unit_of (codes "ECHO") None

-- one terminal, one queue and one unit
abbrev pub n1 : Net
n1 = q1_net (t1 ∷ []) true (echo ∷ [])

abbrev pub two_units_net : Net
two_units_net = q1_net (t1 ∷ []) true (unit_of (codes "U1") None ∷ unit_of (codes "U2") None ∷ [])

abbrev pub inner : ℕ → List ℕ → Choose → TreeRow
inner depth name choose = record { depth = depth; name = name; choose = Some choose }

abbrev pub lowest : List ℕ → TreeRow
lowest name = record { depth = 4; name = name; choose = None }

-- a tree of four levels: the leaves A1, A2, B1 and B2
abbrev pub orders_tree : List TreeRow
orders_tree =
    inner 1 (codes "ORDERS") choose.Ordered
    ∷ inner 2 (codes "NORTH") choose.Oldest
    ∷ inner 3 (codes "A") choose.Ordered
    ∷ lowest (codes "A1")
    ∷ lowest (codes "A2")
    ∷ inner 3 (codes "B") choose.Ordered
    ∷ lowest (codes "B1")
    ∷ lowest (codes "B2")
    ∷ []

-- a terminal for each of three leaves
abbrev pub orders_net : Net
orders_net = record {
  terminals =
      terminal_of (codes "TA1") (codes "P") (Some (feed_to 0)) true
      ∷ terminal_of (codes "TA2") (codes "P") (Some (feed_to 1)) true
      ∷ terminal_of (codes "TB1") (codes "P") (Some (feed_to 2)) true
      ∷ [];
  tree = orders_tree;
  queue_passwords = codes "QPASS" ∷ [];
  leaf_on = true ∷ true ∷ true ∷ true ∷ [];
  units = echo ∷ [];
}

abbrev pub two_terminals_net : Net
two_terminals_net = q1_net (t1 ∷ t2 ∷ []) true (echo ∷ [])

-- S1 is started by a message on Q1
abbrev pub scheduled_net : Net
scheduled_net =
    q1_net (t1 ∷ []) true (unit_of (codes "S1") (Some (record { row = 0 })) ∷ echo ∷ [])

-- the leaf is disabled at first
abbrev pub closed_net : Net
closed_net = q1_net (t1 ∷ []) false (echo ∷ [])

-- two trees with a password each: ORDERS with its four leaves, and Q2
abbrev pub two_trees_net : Net
two_trees_net = record {
  terminals =
      typing (codes "TA1") 0 ∷ typing (codes "TA2") 1 ∷ typing (codes "TB1") 2
      ∷ typing (codes "TQ2") 4 ∷ [];
  tree = orders_tree ++ record { depth = 1; name = codes "Q2"; choose = None } ∷ [];
  queue_passwords = codes "OPASS" ∷ codes "QPASS" ∷ [];
  leaf_on = true ∷ true ∷ true ∷ true ∷ true ∷ [];
  units = echo ∷ [];
}

-- a leaf, a node with two leaves, and a leaf after it
abbrev pub uneven_tree : List TreeRow
uneven_tree =
    inner 1 (codes "TOP") choose.Ordered
    ∷ record { depth = 2; name = codes "M"; choose = None }
    ∷ inner 2 (codes "N") choose.Oldest
    ∷ record { depth = 3; name = codes "N1"; choose = None }
    ∷ record { depth = 3; name = codes "N2"; choose = None }
    ∷ record { depth = 2; name = codes "P"; choose = None }
    ∷ []

-- S is started by a message anywhere in the tree
abbrev pub uneven_net : Net
uneven_net = record {
  terminals =
      typing (codes "TM") 0 ∷ typing (codes "TN1") 1 ∷ typing (codes "TN2") 2
      ∷ typing (codes "TP") 3 ∷ [];
  tree = uneven_tree;
  queue_passwords = codes "QPASS" ∷ [];
  leaf_on = true ∷ true ∷ true ∷ true ∷ [];
  units = echo ∷ unit_of (codes "S") (Some (record { row = 0 })) ∷ [];
}

n1_is_net : IsNet n1
n1_is_net = search rules

orders_net_is_net : IsNet orders_net
orders_net_is_net = search rules

two_trees_net_is_net : IsNet two_trees_net
two_trees_net_is_net = search rules

uneven_net_is_net : IsNet uneven_net
uneven_net_is_net = search rules

scheduled_net_is_net : IsNet scheduled_net
scheduled_net_is_net = search rules
