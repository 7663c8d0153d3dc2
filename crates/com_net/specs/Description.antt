-- The network that a description gives, or its first fault.
use Rattle.std.specs.Prelude.{◌≡◌, ℕ, Bool, nat_lt, List, [], ◌∷◌, length, map, Option, Some, None, is_none, option_map, codes, if◌then◌else◌}
use Rattle.std.specs.Option.{option_or}
use Rattle.std.specs.List.{flat_map}
use Rattle.std.specs.Str.{bytes_eq, is_utf8}
use Rattle.toml.specs.Data.{Members}
use Rattle.toml.specs.Parse.{parse_document}
use Rattle.com_msg.specs.declared.framing.Framing.{Framing}
use Rattle.com_msg.specs.declared.framing.Framing.TheVariants as framing
use Rattle.com_tree.specs.declared.tree.TreeRow.{TreeRow}
use Rattle.com_tree.specs.declared.tree.Node.{Node}
use Rattle.com_tree.specs.Places.{node_with}
use Rattle.com_net.specs.declared.fault.NetKind.{NetKind}
use Rattle.com_net.specs.declared.fault.NetKind.TheVariants as kind
use Rattle.com_net.specs.declared.fault.NetError.{NetError}
use Rattle.com_net.specs.declared.fault.NetError.TheVariants.{Refused, Memory}
use Rattle.com_net.specs.declared.fault.TheConstants.{MAX_DESCRIPTION}
use Rattle.com_net.specs.declared.net.Feed.{Feed}
use Rattle.com_net.specs.declared.net.Terminal.{Terminal}
use Rattle.com_net.specs.declared.net.UnitRow.{UnitRow}
use Rattle.com_net.specs.declared.keys.Section.TheVariants as section
use Rattle.com_net.specs.declared.keys.Key.TheVariants as key
use Rattle.com_net.specs.Parts.{Parts}
use Rattle.com_net.specs.Values.{flag_at, has, string_at, strings_at, tables_at}
use Rattle.com_net.specs.Places.{Place, places}
use Rattle.com_net.specs.KeyFaults.{first_of, missing_key, wrong_kind, unknown_key, bad_name, bad_password}
use Rattle.com_net.specs.NameFaults.{twice_named, over_limit}
use Rattle.com_net.specs.TreeFaults.{tree_rows, bad_tree, leaf_with, bad_route}

-- a fault of a kind, at the path where there is one
abbrev pub told : NetKind → Option (List ℕ) → Option (NetKind × List ℕ)
told kind path = option_map (λ place. (kind, place)) path

-- the fault of the trees, with its own kind
abbrev pub told_tree : List Place → Option (NetKind × List ℕ)
told_tree tables = option_map (λ fault. (kind.BadTree fault.0, fault.1)) (bad_tree tables)

-- the first kind of fault of a document, in this order, at its first place in the walk
abbrev pub document_fault : Members → Option (NetKind × List ℕ)
document_fault document =
    let tables = places document in
    option_or (told kind.MissingKey (first_of missing_key tables))
    (option_or (told kind.WrongKind (first_of wrong_kind tables))
    (option_or (told kind.UnknownKey (first_of unknown_key tables))
    (option_or (told kind.BadName (first_of bad_name tables))
    (option_or (told kind.TwiceNamed (twice_named tables))
    (option_or (told_tree tables)
    (option_or (told kind.BadRoute (first_of (bad_route (tree_rows tables)) tables))
    (option_or (told kind.BadPassword (first_of bad_password tables))
    (told kind.OverLimit (over_limit document)))))))))

-- how a terminal's input is framed
abbrev pub framing_of : Members → Framing
framing_of table =
    if bytes_eq (string_at key.Framing table) (codes "lines") then framing.Lines else framing.Marks

-- where a terminal's messages come from, where it has an input
abbrev pub feed_of : List TreeRow → Members → Option Feed
feed_of rows table =
    if has key.Input table then
    option_map (λ leaf. record {
      file = string_at key.Input table;
      framing = framing_of table;
      leaf = leaf;
    }) (leaf_with rows (strings_at key.Route table))
    else None

abbrev pub terminal_of : List TreeRow → Members → Terminal
terminal_of rows table = record {
  name = string_at key.Name table;
  password = string_at key.Password table;
  feed = feed_of rows table;
  input_on = flag_at key.InputEnabled table;
  output_on = flag_at key.OutputEnabled table;
}

-- the node that starts a unit, where it has a schedule
abbrev pub schedule_of : List TreeRow → Members → Option Node
schedule_of rows table =
    if has key.Schedule table then node_with rows (strings_at key.Schedule table) else None

abbrev pub unit_of : List TreeRow → Members → UnitRow
unit_of rows table = record {
  name = string_at key.Name table;
  source = string_at key.Source table;
  schedule = schedule_of rows table;
}

-- the flag of a queue that has no queues below it
abbrev pub leaf_flags : Place → List Bool
leaf_flags place = elim place.section [
  | section.Queue level ↦
      if has key.Children place.table then [] else flag_at key.Enabled place.table ∷ []
  | _ ↦ []
]

-- the parts that a document gives
abbrev pub parts_of : Members → Parts
parts_of document =
    let tables = places document in
    let rows = tree_rows tables in
    record {
      terminals = map (terminal_of rows) (tables_at key.Terminals document);
      tree = rows;
      queue_passwords = map (string_at key.Password) (tables_at key.Queues document);
      leaf_on = flat_map leaf_flags tables;
      units = map (unit_of rows) (tables_at key.Units document);
    }

-- the document that bytes write
abbrev pub document_of : List ℕ → Option Members
document_of bytes = if is_utf8 bytes then parse_document bytes else None

-- more bytes than a description may have
abbrev pub is_too_long : List ℕ → Bool
is_too_long bytes = nat_lt MAX_DESCRIPTION (length bytes)

-- the first fault of a description, and its path
abbrev pub net_fault_of : List ℕ → Option (NetKind × List ℕ)
net_fault_of bytes =
    if is_too_long bytes then Some (kind.OverLimit, codes "file")
    else elim (document_of bytes) [
      | None ↦ Some (kind.NotToml, codes "file")
      | Some document ↦ document_fault document
    ]

-- the network of a description that has no fault
abbrev pub net_of : List ℕ → Option Parts
net_of bytes =
    if is_none (net_fault_of bytes) then option_map parts_of (document_of bytes) else None

-- a refusal reports this fault; if memory ran out, nothing is said
abbrev pub IsRefusalBy : Option (NetKind × List ℕ) → NetError → Type 0
IsRefusalBy found (Refused fault) = found ≡ Some (fault.kind, fault.path)
IsRefusalBy found (Memory error) = Unit {0}

-- what a refusal tells of a description
abbrev pub IsRefusalOf : List ℕ → NetError → Type 0
IsRefusalOf bytes error = IsRefusalBy (net_fault_of bytes) error

-- not a refusal
abbrev pub IsMemory : NetError → Type 0
IsMemory (Refused fault) = ⊥
IsMemory (Memory error) = Unit {0}
