-- ENABLE INPUT and DISABLE INPUT: the flags of leaves and terminals.
use Rattle.std.specs.Prelude.{ℕ, ◌-◌, Bool, true, false, List, ◌++◌, take, drop, replicate, Option, Some, None, option_map, slice_get, slice_set, if◌then◌else◌}
use Rattle.com_cd.specs.InputArea.{in_field}
use Rattle.com_cd.specs.declared.status.Status.TheVariants.{S00, S20, S40}
use Rattle.com_cd.specs.declared.input_area.InField.TheVariants as field
use Rattle.com_tree.specs.declared.tree.Node.{Node}
use Rattle.com_tree.specs.Places.{first_leaf, past_leaf, top_of}
use Rattle.com_events.specs.declared.reply.Reply.{Reply}
use Rattle.com_events.specs.declared.reply.Reply.TheVariants.{AreaIn}
use Rattle.com_cd.specs.Status.{with_input_status}
use Rattle.com_recv.specs.Incoming.{designated}
use Rattle.com_send.specs.Keys as keys
use Rattle.com_send.specs.Found.{destination_with}
use Rattle.com_state.specs.State.{State, destinations_of}

-- the key is this password, where there is one
abbrev pub is_key : List ℕ → Option (List ℕ) → Bool
is_key key None = false
is_key key (Some password) = keys.is_key key password

-- the flags with those from one place to before another set
abbrev pub set_between : ℕ → ℕ → Bool → List Bool → List Bool
set_between first past on flags =
    take first flags ++ (replicate (past - first) on ++ drop past flags)

-- INPUT: the leaves under the node
abbrev pub switch_leaves : State → Bool → List ℕ → List ℕ → Node → Reply × State
switch_leaves S on area key node =
    if is_key key (slice_get S.net.queue_passwords (top_of S.net.tree node))
    then (
      AreaIn (with_input_status S00 area),
      record S {
        leaf_on = set_between (first_leaf S.net.tree node) (past_leaf S.net.tree node) on S.leaf_on;
      },
    )
    else (AreaIn (with_input_status S40 area), S)

-- INPUT TERMINAL: the terminal that SYMBOLIC SOURCE names
abbrev pub switch_terminal : State → Bool → List ℕ → List ℕ → ℕ → Reply × State
switch_terminal S on area key terminal =
    if is_key key (option_map (λ t. t.password) (slice_get S.net.terminals terminal))
    then (AreaIn (with_input_status S00 area), record S { input_on = slice_set S.input_on terminal on })
    else (AreaIn (with_input_status S40 area), S)

-- ENABLE and DISABLE INPUT, without TERMINAL and with it
abbrev pub switch_input : State → Bool → Bool → List ℕ → List ℕ → Reply × State
switch_input S on false area key = elim (designated S.net.tree area) [
  | None ↦ (AreaIn (with_input_status S20 area), S)
  | Some node ↦ switch_leaves S on area key node
]
switch_input S on true area key =
    elim (destination_with (destinations_of S.net) (in_field field.Source area)) [
      | None ↦ (AreaIn (with_input_status S20 area), S)
      | Some terminal ↦ switch_terminal S on area key terminal
    ]
