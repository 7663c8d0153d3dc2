-- The faults of a document in the order in which the code looks for them.
use Rattle.std.specs.Prelude.{ℕ, List, Option}
use Rattle.com_net.specs.declared.key_faults.Check.{Check}
use Rattle.com_net.specs.declared.key_faults.Check.TheVariants as check
use Rattle.com_net.specs.Places.{Place}
use Rattle.std.specs.Option.{option_or}
use Rattle.toml.specs.Data.{Members}
use Rattle.com_tree.specs.declared.tree.TreeRow.{TreeRow}
use Rattle.com_net.specs.declared.fault.NetKind.{NetKind}
use Rattle.com_net.specs.declared.fault.NetKind.TheVariants as kind
use Rattle.com_net.specs.NameFaults.{twice_named, over_limit}
use Rattle.com_net.specs.TreeFaults.{bad_route}
use Rattle.com_net.specs.Description.{told}
use Rattle.com_net.specs.KeyFaults.{first_of, missing_key, wrong_kind, unknown_key, bad_name, bad_password}

-- the first fault of a kind in a table
abbrev pub fault_at : Check → Place → Option (List ℕ)
fault_at check.MissingKey = missing_key
fault_at check.WrongKind = wrong_kind
fault_at check.UnknownKey = unknown_key
fault_at check.BadName = bad_name
fault_at check.BadPassword = bad_password

-- the first fault of the kinds before those of the trees
abbrev pub early_fault : List Place → Option (NetKind × List ℕ)
early_fault tables =
    option_or (told kind.MissingKey (first_of missing_key tables))
    (option_or (told kind.WrongKind (first_of wrong_kind tables))
    (option_or (told kind.UnknownKey (first_of unknown_key tables))
    (option_or (told kind.BadName (first_of bad_name tables))
    (told kind.TwiceNamed (twice_named tables)))))

-- and of those after
abbrev pub late_fault : List TreeRow → List Place → Members → Option (NetKind × List ℕ)
late_fault rows tables document =
    option_or (told kind.BadRoute (first_of (bad_route rows) tables))
    (option_or (told kind.BadPassword (first_of bad_password tables))
    (told kind.OverLimit (over_limit document)))
