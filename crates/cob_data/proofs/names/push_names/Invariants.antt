use Rattle.std.proofs.Common.{◌≡◌, ◌++◌, drop, filter}
use Rattle.cob_forms.specs.Sorts.{is, name}
use Rattle.cob_data.proofs.NamePasses.{shown}
use Rattle.cob_data.proofs.names.push_names.Given as goal

abbrev pub invariant-tokens : goal.invariant-tokens
invariant-tokens l = shown l.names.items ++ filter (is name) (drop l.token-index l.tokens) ≡ shown l.initial.names.items ++ filter (is name) l.tokens
