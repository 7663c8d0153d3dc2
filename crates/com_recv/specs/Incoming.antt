-- What has come in and is not yet received whole: the messages that wait on the leaves of the trees,
-- and what units hold of messages that they have begun to receive.
use Rattle.std.specs.Prelude.{ℕ, ◌-◌, ◌<◌, ◌≤◌, Bool, not, ◌&&◌, ◌==◌, nat_le, nat_lt, List, [], ◌∷◌, length, take, Option, option_map, option_and_then, if◌then◌else◌, count_by}
use Rattle.std.specs.List.{filter, find, position, range_with_len, list_any, All, AllPairs}
use Rattle.std.specs.Str.{bytes_eq}
use Rattle.com_msg.specs.declared.message.Message.{Message}
use Rattle.com_cd.specs.Designation.{names_length, path_fields}
use Rattle.com_tree.specs.declared.tree.TreeRow.{TreeRow}
use Rattle.com_tree.specs.declared.tree.Node.{Node}
use Rattle.com_tree.specs.Written.{IsWritten, leaf_count}
use Rattle.com_tree.specs.Places.{paths, first_leaf, past_leaf}
use Rattle.com_tree.specs.NextLeaf.{next_leaf}
use Rattle.com_recv.specs.declared.lists.Waiting.{Waiting}
use Rattle.com_recv.specs.declared.lists.Held.{Held}

pub record Incoming : Type 0 where
  -- in order of arrival
  pub waiting : List Waiting
  pub held : List Held

-- nothing waits, and nothing is held
abbrev pub nothing : Incoming
nothing = record { waiting = []; held = [] }

-- the node whose path the four name fields of the area hold
abbrev pub designated : List TreeRow → List ℕ → Option Node
designated tree area =
    option_map (λ place. record { row = place })
    (position (λ path. bytes_eq (take names_length area) (path_fields path)) (paths tree))

-- the leaf stands under the node, or is it
abbrev pub is_under : List TreeRow → Node → ℕ → Bool
is_under tree node leaf =
    nat_le (first_leaf tree node) leaf && nat_lt leaf (past_leaf tree node)

-- the leaves under a node, in written order
abbrev pub leaves_of : List TreeRow → Node → List ℕ
leaves_of tree node =
    let first = first_leaf tree node in
    range_with_len first (past_leaf tree node - first)

-- this message waits on the leaf
abbrev pub is_on : ℕ → Waiting → Bool
is_on leaf w = w.leaf.number == leaf

-- the message that came first of those on a leaf
abbrev pub first_on : List Waiting → ℕ → Option Message
first_on waiting leaf = option_map (λ w. w.message) (find (is_on leaf) waiting)

-- the arrival number of the message that came first on a leaf
abbrev pub first_number : List Waiting → ℕ → Option ℕ
first_number waiting leaf = option_map (λ message. message.arrival) (first_on waiting leaf)

-- the leaf that a node chooses, by the messages that wait
abbrev pub chosen_leaf : List TreeRow → List Waiting → Node → Option ℕ
chosen_leaf tree waiting node =
    option_map (λ leaf. leaf.number) (next_leaf tree node (first_number waiting))

-- the place of the message that came first on the leaf that a node chooses
abbrev pub place_of_choice : List TreeRow → List Waiting → Node → Option ℕ
place_of_choice tree waiting node =
    option_and_then (λ leaf. position (is_on leaf) waiting)
    (chosen_leaf tree waiting node)

-- the other messages, where the first on a leaf is taken
abbrev pub without_first : ℕ → List Waiting → List Waiting
without_first leaf [] = []
without_first leaf (w ∷ waiting) =
    if is_on leaf w then waiting else w ∷ without_first leaf waiting

-- this is what the unit holds from the leaf
abbrev pub is_held_on : ℕ → ℕ → Held → Bool
is_held_on unit leaf h = h.unit == unit && h.leaf.number == leaf

-- the rest that the unit holds from a leaf
abbrev pub held_on : List Held → ℕ → ℕ → Option Held
held_on held unit leaf = find (is_held_on unit leaf) held

-- all that is held but what the unit holds from a leaf
abbrev pub without_held : ℕ → ℕ → List Held → List Held
without_held unit leaf held = filter (λ h. not (is_held_on unit leaf h)) held

-- all that is held but what the unit holds
abbrev pub without_unit : ℕ → List Held → List Held
without_unit unit held = filter (λ h. not (h.unit == unit)) held

-- what the unit holds from the first of some leaves that it holds something from
abbrev pub held_in : List Held → ℕ → List ℕ → Option Held
held_in held unit leaves =
    option_and_then (λ leaf. held_on held unit leaf)
    (find (λ leaf. list_any (is_held_on unit leaf) held) leaves)

-- what the unit holds on the first leaf under the node that it holds something from
abbrev pub held_under : List TreeRow → List Held → ℕ → Node → Option Held
held_under tree held unit node = held_in held unit (leaves_of tree node)

-- a rest with no piece left is not held
abbrev pub with_held : ℕ → ℕ → Message → List (List ℕ) → List Held → List Held
with_held unit leaf rest [] held = held
with_held unit leaf rest (piece ∷ pieces) held =
    record { unit = unit; leaf = record { number = leaf }; rest = rest } ∷ held

-- what is held when a unit has had a portion of a message from a leaf, by the rest of it
abbrev pub holding : ℕ → ℕ → Message → List Held → List Held
holding unit leaf rest held =
    with_held unit leaf rest rest.segments (without_held unit leaf held)

-- how many messages wait under a node
abbrev pub waiting_under : List TreeRow → List Waiting → Node → ℕ
waiting_under tree waiting node = count_by (λ w. is_under tree node w.leaf.number) waiting

-- a message waits on a leaf under the node
abbrev pub has_message : List TreeRow → List Waiting → Node → Bool
has_message tree waiting node = list_any (λ w. is_under tree node w.leaf.number) waiting

-- the unit holds a rest from a leaf under the node
abbrev pub has_rest : List TreeRow → List Held → ℕ → Node → Bool
has_rest tree held unit node =
    list_any (λ h. h.unit == unit && is_under tree node h.leaf.number) held

-- the first message has arrived before the second
abbrev pub IsEarlier : Waiting → Waiting → Type 0
IsEarlier w later = w.message.arrival < later.message.arrival

-- Of what waits and what is held, each message has a segment; and those that wait stand in the order
-- of their arrival numbers.
pub record IsSound (incoming : Incoming) : Type 0 where
  pub waiting : All (λ w. 1 ≤ length w.message.segments) incoming.waiting
  pub held : All (λ h. 1 ≤ length h.rest.segments) incoming.held
  pub in_order : AllPairs IsEarlier incoming.waiting

-- Trees that may be written, and among their leaves all those of what waits and what is held.
pub record IsTreeOf (tree : List TreeRow) (incoming : Incoming) : Type 0 where
  pub written : IsWritten tree
  pub waiting : All (λ w. w.leaf.number < leaf_count tree) incoming.waiting
  pub held : All (λ h. h.leaf.number < leaf_count tree) incoming.held
