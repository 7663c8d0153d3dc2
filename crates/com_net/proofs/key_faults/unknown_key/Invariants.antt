use Rattle.std.proofs.Common.{◌≡◌, not}
use Rattle.std.specs.List.{find}
use Rattle.toml.specs.View.{table_view}
use Rattle.com_net.specs.Keys.{keys_of}
use Rattle.com_net.specs.KeyFaults.{is_known, names_in}
use Rattle.com_net.proofs.Tables.{unknown}
use Rattle.com_net.proofs.key_faults.unknown_key.Given as goal

-- what is left decides
abbrev pub invariant-loop-name : goal.invariant-loop-name
invariant-loop-name l = unknown (keys_of l.section) (table_view l.table) l.name-iterator
    ≡ find (λ name. not (is_known (keys_of l.section) (table_view l.table) name)) (names_in (table_view l.table))
