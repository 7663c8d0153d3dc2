use Rattle.std.proofs.Common.{◌≡◌, drop}
use Rattle.std.specs.List.{list_any}
use Rattle.cob_meaning.specs.Names.{names_number}
use Rattle.cob_code.proofs.kinds.any_number.Given as goal

abbrev pub invariant-targets : goal.invariant-targets
invariant-targets l = list_any (names_number l.names) (drop l.target-index l.targets) ≡ list_any (names_number l.names) l.targets
