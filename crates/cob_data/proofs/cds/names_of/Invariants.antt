use Rattle.std.proofs.Common.{◌≡◌, ◌++◌, drop, map, filter}
use Rattle.cob_data.specs.Clauses.{is_name_or_filler}
use Rattle.cob_data.specs.Divisions.{name_if}
use Rattle.cob_data.proofs.cds.names_of.Given as goal

abbrev pub invariant-tokens : goal.invariant-tokens
invariant-tokens l = l.list.items ++ map name_if (filter is_name_or_filler (drop l.token-index l.body)) ≡ map name_if (filter is_name_or_filler l.body)
