use Rattle.std.proofs.Common.{◌≡◌, drop}
use Rattle.toml.specs.View.{table_view}
use Rattle.com_net.specs.KeyFaults.{is_known}
use Rattle.com_net.proofs.key_faults.is_known.Given as goal

-- what is left decides
abbrev pub invariant-loop-key : goal.invariant-loop-key
invariant-loop-key l = is_known (drop l.key-index l.keys) (table_view l.table) l.name ≡ is_known l.keys (table_view l.table) l.name
