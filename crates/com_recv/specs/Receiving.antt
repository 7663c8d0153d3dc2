-- RECEIVE and ACCEPT MESSAGE COUNT, by what waits and what units hold.
use Rattle.std.specs.Prelude.{ℕ, Bool, List, Option, Some, None, option_map, option_and_then, is_some}
use Rattle.std.specs.Option.{option_or}
use Rattle.com_msg.specs.declared.message.Message.{Message}
use Rattle.com_msg.specs.declared.rest.Kind.{Kind}
use Rattle.com_msg.specs.Portion.{take_portion}
use Rattle.com_cd.specs.declared.status.Status.TheVariants.{S20}
use Rattle.com_tree.specs.declared.tree.TreeRow.{TreeRow}
use Rattle.com_tree.specs.declared.tree.Node.{Node}
use Rattle.com_recv.specs.declared.lists.Waiting.{Waiting}
use Rattle.com_recv.specs.declared.lists.Held.{Held}
use Rattle.com_recv.specs.declared.queues.Taken.{Taken}
use Rattle.com_recv.specs.declared.queues.Taken.TheVariants.{Given, NoData, Unknown}
use Rattle.com_recv.specs.Incoming.{Incoming, designated, first_on, chosen_leaf, without_first, held_under, holding, waiting_under}
use Rattle.com_recv.specs.Areas.{given_area, no_data_area, counted_area}
use Rattle.com_cd.specs.Status.{with_input_status}

-- what a RECEIVE goes on with, and what waits then
pub record Next : Type 0 where
  pub leaf : ℕ
  pub rest : Message
  pub waiting : List Waiting

-- a rest that is held is gone on with, and what waits stays
abbrev pub next_of_held : Incoming → Option Held → Option Next
next_of_held incoming None = None
next_of_held incoming (Some h) =
    Some (record { leaf = h.leaf.number; rest = h.rest; waiting = incoming.waiting })

-- the message that came first on the leaf that the node chooses
abbrev pub next_waiting : List TreeRow → Incoming → Node → Option Next
next_waiting tree incoming node =
    option_and_then (λ leaf. option_map (λ message. record {
      leaf = leaf;
      rest = message;
      waiting = without_first leaf incoming.waiting;
    }) (first_on incoming.waiting leaf)) (chosen_leaf tree incoming.waiting node)

-- the rest that the unit holds goes first
abbrev pub next_rest : List TreeRow → Incoming → ℕ → Node → Option Next
next_rest tree incoming unit node =
    option_or (next_of_held incoming (held_under tree incoming.held unit node))
    (next_waiting tree incoming node)

-- a unit has something to go on with under a node
abbrev pub has_data : List TreeRow → Incoming → ℕ → Node → Bool
has_data tree incoming unit node = is_some (next_rest tree incoming unit node)

-- what was asked for, what the area tells, and what is left
abbrev pub Received : Type 0
Received = Taken × List ℕ × Incoming

-- one portion of the rest is given, and the unit holds what is left of it
abbrev pub give : List TreeRow → Incoming → ℕ → List ℕ → Kind → ℕ → Next → Received
give tree incoming unit area kind size next =
    let taken = take_portion kind size next.rest in (
      Given taken.0.text,
      given_area tree next.leaf next.rest taken.0 area,
      record { waiting = next.waiting; held = holding unit next.leaf taken.1 incoming.held },
    )

-- what is gone on with is given, and else there is no data
abbrev pub receive_next : List TreeRow → Incoming → ℕ → List ℕ → Kind → ℕ → Option Next → Received
receive_next tree incoming unit area kind size None = (NoData, no_data_area area, incoming)
receive_next tree incoming unit area kind size (Some next) =
    give tree incoming unit area kind size next

-- no node: the status key alone changes
abbrev pub receive_at : List TreeRow → Incoming → ℕ → List ℕ → Kind → ℕ → Option Node → Received
receive_at tree incoming unit area kind size None = (Unknown, with_input_status S20 area, incoming)
receive_at tree incoming unit area kind size (Some node) =
    receive_next tree incoming unit area kind size (next_rest tree incoming unit node)

-- RECEIVE, from the node that the area designates
abbrev pub receive : List TreeRow → Incoming → ℕ → List ℕ → Kind → ℕ → Received
receive tree incoming unit area kind size =
    receive_at tree incoming unit area kind size (designated tree area)

-- no node: the status key alone changes
abbrev pub count_at : List TreeRow → Incoming → List ℕ → Option Node → List ℕ
count_at tree incoming area None = with_input_status S20 area
count_at tree incoming area (Some node) =
    counted_area (waiting_under tree incoming.waiting node) area

-- ACCEPT MESSAGE COUNT, of the node that the area designates
abbrev pub count : List TreeRow → Incoming → List ℕ → List ℕ
count tree incoming area = count_at tree incoming area (designated tree area)
